-- What the tasks of planning do.
use Rattle.std.specs.Prelude.{◌≡◌, ◌*◌, ◌++◌, ℕ, List, length}
use Rattle.yspec.specs.Forest.{size}
use Rattle.ybase_preorder.specs.Layout.{laid, closed}
use Rattle.ybase_preorder.specs.View.{slots_in, row_by, row_view}
use Rattle.ybase_preorder.specs.declared.siblings.Siblings.{Siblings}
use Rattle.ybase_preorder.specs.declared.table.Table.{Table}
use Rattle.yschema_expand.specs.NodeView.{numbered_part}
use Rattle.yschema_expand.specs.Turns.{Leaves}
use Rattle.yschema_expand.specs.declared.nodes.ExpandedNode.{ExpandedNode}
use Rattle.yschema_plan.specs.PlannedView.{seen_rows, listed, around_view}
use Rattle.yschema_plan.specs.declared.planned.Around.{Around}
use Rattle.yschema_plan.specs.declared.planned.Planned.{Planned}
use Rattle.yschema_plan.specs.declared.planning.Task.{Task}
use Rattle.yschema_plan.specs.declared.planning.Task.TheVariants.{Add, Close}

-- the nodes of a row come into the table
abbrev pub AddsRow : Around → Siblings ExpandedNode → Table Planned → Table Planned → Type 0
AddsRow around row old new =
    seen_rows new ≡ seen_rows old ++ listed (length (slots_in old)) (around_view around) (row_by numbered_part row)

abbrev pub Does : Task → Table Planned → Table Planned → Type 0
Does (Add around row) old new = AddsRow around row old new
Does (Close number) old new = laid (slots_in new) ≡ closed number (laid (slots_in old))

-- how many tasks come of a row
abbrev pub row_toll : Siblings ExpandedNode → ℕ
row_toll row = 3 * size (row_view row)

abbrev pub toll : Task → ℕ
toll (Add around row) = row_toll row
toll (Close number) = 0

-- every task may come
abbrev pub IsTask : Task → Type 0
IsTask t = Unit {0}

abbrev pub Leads : (Table Planned → Table Planned → Type 0) → ℕ → List Task → List Task → Table Planned → Table Planned → Type 0
Leads = Leaves Does toll IsTask
