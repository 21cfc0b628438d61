use Rattle.std.proofs.Common.{◌≡◌, ◌++◌, drop, None, string_bytes, true}
use Rattle.yspec.specs.document.Sorting.{IsSorted}
use Rattle.yschema_model.specs.View.{view}
use Rattle.yinst_tree.specs.View.{row_view, tree_view, place_view}
use Rattle.ysay_place.specs.KeyedPath.{keyed_from}
use Rattle.ysay_place.proofs.path.keyed_path.Given as goal

-- the text so far, and that of the steps that are left; a row of a document in order is in order
abbrev pub invariant-loop-step : goal.invariant-loop-step
invariant-loop-step l = (string_bytes l.text ++ keyed_from (view l.schema) l.parent_module (row_view l.row) (place_view (drop l.step-index l.steps))
    ≡ keyed_from (view l.schema) None (tree_view l.tree) (place_view l.steps))
    × (l.in_order ≡ true → IsSorted (row_view l.row))
