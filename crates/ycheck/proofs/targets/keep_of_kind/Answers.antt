use Rattle.std.proofs.Common.{[], ap, subst}
use Rattle.std.specs.Option.{option_map_or}
use Rattle.std.proofs.lemmas.Result.{on_ok_weaker}
use Rattle.ycheck.specs.Targets.{required_in, KeepsMore}
use Rattle.ycheck.proofs.KeepLemmas.{none_kept}
use Rattle.ycheck.proofs.targets.keep_of_kind.Goals as goal

pub returns-in-Some-clause-kept : goal.returns-in-Some-clause-kept
returns-in-Some-clause-kept c =
    on_ok_weaker c.keep_of_type.result (subst (KeepsMore c.args.targets.now c.keep_of_type.new.targets) (ap (λ o. option_map_or required_in o []) c.in-Some.ensures)) c.keep_of_type.ensures.kept

pub returns-in-None-clause-kept : goal.returns-in-None-clause-kept
returns-in-None-clause-kept c =
    subst (KeepsMore c.args.targets.now c.args.targets.now) (ap (λ o. option_map_or required_in o []) c.in-None.ensures) (none_kept c.args.targets.now)
