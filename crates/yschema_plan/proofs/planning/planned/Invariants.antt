use Rattle.std.proofs.Common.{◌≡◌}
use Rattle.yspec.specs.linking.Planned.{at_top}
use Rattle.ybase_preorder.specs.View.{row_by}
use Rattle.ybase_preorder.specs.declared.table.Table.{Table}
use Rattle.yschema_expand.specs.NodeView.{numbered_part}
use Rattle.yschema_expand.specs.Turns.{Runs, work}
use Rattle.yschema_plan.specs.PlannedView.{seen_rows, listed}
use Rattle.yschema_plan.specs.Planning.{toll, Does}
use Rattle.yschema_plan.specs.declared.planned.Planned.{Planned}
use Rattle.yschema_plan.proofs.planning.planned.Given as goal

-- whatever the tasks that are left come to, all comes to
abbrev pub invariant-loop-task : goal.invariant-loop-task
invariant-loop-task l = (final : Table Planned) → Runs Does l.tasks.items l.table final
    → seen_rows final ≡ listed 0 at_top (row_by numbered_part l.fn.roots)

abbrev pub decreases-loop-task : goal.decreases-loop-task
decreases-loop-task l = work toll l.tasks.items
