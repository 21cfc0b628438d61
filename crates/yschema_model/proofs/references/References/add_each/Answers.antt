use Rattle.std.proofs.Common.{OnOk, [], ◌∷◌, subst, sym}
use Rattle.std.proofs.lemmas.Result.{on_ok_weaker}
use Rattle.yschema_model.specs.References.{targets_of, HoldsMore}
use Rattle.yschema_model.proofs.ReferenceLemmas.{all_more, own_more}
use Rattle.yschema_model.proofs.references.References.add_each.Goals as goal

pub returns-in-Own : goal.returns-in-Own
returns-in-Own c =
    subst (λ members. HoldsMore c.args.self.now c.args.self.now c.args.id.0 (targets_of (members ∷ []))) (sym c.in-Own.is) (own_more c.args.self.now c.args.id.0 c.in-Own.field-0)

pub returns-in-One : goal.returns-in-One
returns-in-One c =
    subst (λ members. OnOk c.add_once.result (HoldsMore c.args.self.now c.add_once.new.self c.args.id.0 (targets_of (members ∷ [])))) (sym c.in-One.is) c.add_once.ensures

pub returns-in-All : goal.returns-in-All
returns-in-All c =
    subst (λ members. OnOk c.add_where.result (HoldsMore c.args.self.now c.add_where.new.self c.args.id.0 (targets_of (members ∷ [])))) (sym c.in-All.is)
    (on_ok_weaker c.add_where.result (all_more c.args.self.now c.add_where.new.self c.args.id.0 c.in-All.target c.in-All.count _) c.add_where.ensures)
