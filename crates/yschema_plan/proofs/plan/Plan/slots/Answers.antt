use Rattle.std.proofs.Common.{ap, sym, ◌∙◌}
use Rattle.ybase_preorder.specs.Layout.{labels_by}
use Rattle.yschema_plan.specs.PlannedView.{planned_view}
use Rattle.yschema_plan.proofs.PlanLemmas.{nodes_are}
use Rattle.yschema_plan.proofs.plan.Plan.slots.Goals as goal

pub returns-clause-nodes : goal.returns-clause-nodes
returns-clause-nodes c = ap (labels_by planned_view 0) c.slots.ensures ∙ sym (nodes_are c.args.self.now)
