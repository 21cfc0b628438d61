use Rattle.std.proofs.Common.{◌≡◌, drop, true}
use Rattle.yspec.specs.document.Sorting.{IsSorted}
use Rattle.yinst_tree.specs.View.{row_view, tree_view, place_view}
use Rattle.ysay_place.specs.Places.{row_at}
use Rattle.ysay_place.proofs.place.row_at.Given as goal

-- the steps that are left lead to it; a row of a document in order is in order
abbrev pub invariant-loop-step : goal.invariant-loop-step
invariant-loop-step l = (row_at (row_view l.row) (place_view (drop l.step-index l.steps)) ≡ row_at (tree_view l.tree) (place_view l.steps))
    × (l.in_order ≡ true → IsSorted (row_view l.row))
