use Rattle.std.proofs.Common.{false, ap, ◌∙◌}
use Rattle.std.specs.Option.{option_map_or}
use Rattle.yspec.specs.document.Faults as document_faults
use Rattle.ycheck.specs.Walk.{times_of}
use Rattle.ycheck.proofs.checking.lacks_instance.Goals as goal

pub returns-in-Some : goal.returns-in-Some
returns-in-Some c = c.is_missing.ensures ∙ ap (λ o. option_map_or (document_faults.lacks_instance (times_of c.args.targets.now)) o false) c.in-Some.ensures

pub returns-in-None : goal.returns-in-None
returns-in-None c = ap (λ o. option_map_or (document_faults.lacks_instance (times_of c.args.targets.now)) o false) c.in-None.ensures
