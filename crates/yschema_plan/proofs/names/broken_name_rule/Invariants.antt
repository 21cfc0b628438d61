use Rattle.std.proofs.Common.{◌≡◌, take, drop, None}
use Rattle.yspec.specs.schema.Breaks.{least_from}
use Rattle.yspec.specs.linking.NodeBreaks.{doubled, name_breaks}
use Rattle.ybase_preorder.specs.Layout.{labels_by}
use Rattle.ybase_preorder.specs.View.{slots_in}
use Rattle.ylink_grammar.specs.BreakView.{seen}
use Rattle.yschema_plan.specs.PlannedView.{planned_view}
use Rattle.yschema_plan.specs.PlanView.{view}
use Rattle.yschema_plan.proofs.names.broken_name_rule.Given as goal

abbrev pub invariant-loop-number : goal.invariant-loop-number
invariant-loop-number l =
    let rows = slots_in l.plan.table in
    least_from (seen l.told) (doubled (labels_by planned_view 0 (take l.number rows)) (labels_by planned_view l.number (drop l.number rows)))
    ≡ least_from None (name_breaks (view l.plan))
