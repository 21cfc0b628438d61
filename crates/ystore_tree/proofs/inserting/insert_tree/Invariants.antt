use Rattle.std.proofs.Common.{◌≡◌, drop}
use Rattle.yspec.specs.Forest.{end, join}
use Rattle.yinst_tree.specs.View.{tree_view, row_view}
use Rattle.ystore.specs.Views.{store_of, lent}
use Rattle.ystore_rows.specs.declared.row.Row.TheVariants.{Top}
use Rattle.yschema_model.specs.View as schema_view
use Rattle.ystore_tree.specs.Hanging.{Branches, tree_of, Keeps}
use Rattle.ystore_tree.specs.Copies.{laid_on}
use Rattle.ystore_tree.specs.Growing.{Freshens}
use Rattle.ystore_tree.proofs.inserting.insert_tree.Given as goal

-- what was put in with what is left is the document
abbrev pub invariant-loop-stored : goal.invariant-loop-stored
invariant-loop-stored l =
    (lent l.counted ≡ lent l.fn.counted)
    × Freshens (schema_view.view l.schema) (store_of l.fn.counted) (store_of l.counted)
    × ((before : Branches) → Keeps (store_of l.fn.counted) before Top end
    → (done : Branches) × (join (tree_of done) (row_view (drop l.stored-index l.stored-items)) ≡ tree_view l.tree)
    × Keeps (store_of l.counted) (laid_on before done) Top end)
