use Rattle.std.proofs.Common.{◌≡◌, ◌+◌, ◌*◌, List}
use Rattle.yspec.specs.Forest.{end, join}
use Rattle.yspec.specs.document.Document.{Step, Tree}
use Rattle.yschema_model.specs.View as schema_view
use Rattle.yinst_tree.specs.View.{row_view}
use Rattle.ystore.specs.Views.{store_of, lent}
use Rattle.ylive_edit.specs.Places.{Carries, IsAt}
use Rattle.ylive_edit.proofs.opening.+hanging.Given as goal

abbrev pub decreases-hang_row : goal.decreases-hang_row
decreases-hang_row l = 2 * l.levels + 1

abbrev pub decreases-hang_node : goal.decreases-hang_node
decreases-hang_node l = 2 * l.levels

-- what was hung with what is left is the row
abbrev pub invariant-hang_row-loop-stored : goal.invariant-hang_row-loop-stored
invariant-hang_row-loop-stored l =
    (lent l.counted ≡ lent l.fn.counted)
    × (done : Tree) × (join done (row_view l.stored-iterator.rest.items) ≡ row_view l.fn.row.items)
    × ((tree : Tree) (steps : List Step) (at : IsAt (schema_view.view l.schema) (store_of l.fn.counted) tree steps l.above end)
    → Carries (schema_view.view l.schema) (store_of l.counted) at.way done)
