use Rattle.ybase_preorder.specs.View.{row_by}
use Rattle.yschema_expand.specs.NumberedView.{with_number}
use Rattle.yschema_augment.specs.Placing.{toll, Copies, Does}
use Rattle.yschema_expand.specs.Turns.{work, Runs}
use Rattle.yschema_expand.specs.declared.table.NodeTable.{NodeTable}
use Rattle.yschema_augment.proofs.arranging.add_row.Given as goal

-- whatever the tasks that are left come to, all comes to
abbrev pub invariant-loop-task : goal.invariant-loop-task
invariant-loop-task l = (final : NodeTable) → Runs (Does l.all) l.tasks.items l.made final
    → Copies l.all l.fn.spot (row_by with_number l.fn.nodes) l.fn.made final

abbrev pub decreases-loop-task : goal.decreases-loop-task
decreases-loop-task l = work (toll l.all) l.tasks.items
