use Rattle.std.proofs.Common.{◌≡◌, length}
use Rattle.yspec.specs.Forest.{join}
use Rattle.yspec.specs.document.Document.{Tree}
use Rattle.yinst_tree.specs.View.{view, row_view}
use Rattle.ystore.specs.Views.{store_of, lent}
use Rattle.ystore_rows.specs.declared.row.Row.TheVariants.{Below}
use Rattle.yschema_model.specs.View as schema_view
use Rattle.ystore_tree.specs.Growing.{Inserts, Freshens, has_room_for}
use Rattle.ystore_tree.proofs.inserting.+parts.Given as goal

-- what was put in with what is left is all that stands below
abbrev pub invariant-loop-child : goal.invariant-loop-child
invariant-loop-child l =
    record {
      same_reference : lent l.counted ≡ lent l.fn.counted;
      room : has_room_for (length l.child-iterator.rest.items) (store_of l.counted) (Below l.id);
      fresh : Freshens (schema_view.view l.schema) (store_of l.fn.counted) (store_of l.counted);
      made : (t : Tree) × (join t (row_view l.child-iterator.rest.items) ≡ (view l.fn.stored).1)
          × Inserts l.fn.above l.id (view l.fn.stored).0 t (store_of l.fn.counted) (store_of l.counted) l.fn.numbers.items l.numbers.items;
    }
