use Rattle.std.proofs.Common.{OnOk, subst, sym}
use Rattle.std.specs.Prelude.{option_to_list}
use Rattle.yschema_model.specs.Layout.{number_of}
use Rattle.yschema_model.specs.References.{HoldsMore}
use Rattle.yschema_model.proofs.ReferenceLemmas.{none_more}
use Rattle.yschema_model.proofs.references.References.add_whole.Goals as goal

pub returns-in-Some : goal.returns-in-Some
returns-in-Some c =
    subst (λ target. OnOk c.add_once.result (HoldsMore c.args.self.now c.add_once.new.self c.args.id.0 (option_to_list (number_of target)))) (sym c.in-Some.is) c.add_once.ensures

pub returns-in-None : goal.returns-in-None
returns-in-None c =
    subst (λ target. HoldsMore c.args.self.now c.args.self.now c.args.id.0 (option_to_list (number_of target))) (sym c.in-None.is) (none_more c.args.self.now c.args.id.0)
