use Rattle.std.proofs.Common.{refl, sym, ap, ◌∙◌}
use Rattle.yschema_plan.specs.PlanView.{view}
use Rattle.yschema_types.specs.Marks.{marked_by}
use Rattle.yschema_resolve.specs.TuplesView.{keys_of}
use Rattle.yschema_resolve.proofs.MarkLemmas.{all_marked}
use Rattle.yschema_resolve.proofs.tuples.keys.Goals as goal

pub returns : goal.returns
returns c =
    sym (ap (marked_by (keys_of (view c.args.plan.now)) c.loop-node.marks.items) c.in-None.ensures.steps.0)
    ∙ (c.loop-node.invariant.marks ∙ all_marked c.args.plan.now _ refl)
