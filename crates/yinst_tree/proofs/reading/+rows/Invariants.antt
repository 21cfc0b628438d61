use Rattle.std.proofs.Common.{◌≡◌, ◌+◌, ◌*◌, ◌≤◌}
use Rattle.serde_json.specs.View.{items_view, members_view}
use Rattle.yspec.specs.Forest.{join, size}
use Rattle.yspec.specs.document.Reading.{item_row}
use Rattle.yschema_model.specs.View as schema_view
use Rattle.yinst_tree.specs.View.{row_view}
use Rattle.yinst_tree.specs.Taking.{taken, taken_in}
use Rattle.yinst_tree.proofs.reading.+rows.Given as goal

-- what stands below a schema node is smaller than its row
abbrev pub decreases-put_rows : goal.decreases-put_rows
decreases-put_rows l = 6 * size (schema_view.row_view l.children)

abbrev pub decreases-put_child : goal.decreases-put_child
decreases-put_child l = 6 * size (schema_view.below_of l.child) + 5

abbrev pub decreases-put_instances : goal.decreases-put_instances
decreases-put_instances l = 6 * size (schema_view.below_of l.child) + 4

abbrev pub decreases-put_items : goal.decreases-put_items
decreases-put_items l = 6 * size (schema_view.below_of l.child) + 3

abbrev pub decreases-put_instance : goal.decreases-put_instance
decreases-put_instance l = 6 * size (schema_view.below_of l.child) + 2

abbrev pub decreases-stored_node : goal.decreases-stored_node
decreases-stored_node l = 6 * size (schema_view.row_view l.children) + 1

-- what is put in, and what is left, with the schema nodes that are left to walk
abbrev pub invariant-put_rows-loop-child : goal.invariant-put_rows-loop-child
invariant-put_rows-loop-child l =
    let s = schema_view.view l.schema in
    record {
      more : (goal.iterator-put_rows-loop-child).can_next l.child-iterator;
      ends : (goal.iterator-put_rows-loop-child).is_finite l.child-iterator;
      smaller : size (schema_view.row_view l.child-iterator) ≤ size (schema_view.row_view l.children);
      rows : taken s l.parent_module (schema_view.row_view l.child-iterator) (row_view l.row.items, members_view l.members.entries)
          ≡ taken s l.parent_module (schema_view.row_view l.children) (row_view l.fn.row.items, members_view l.fn.members.entries);
    }

-- the items so far, with those that are left
abbrev pub invariant-put_items-loop-item : goal.invariant-put_items-loop-item
invariant-put_items-loop-item l =
    let n = schema_view.label_of l.child in
    let inner = taken_in (schema_view.view l.schema) n (schema_view.below_of l.child) in
    join (row_view l.row.items) (item_row n inner (items_view l.item-iterator.rest.items)) ≡ join (row_view l.fn.row.items) (item_row n inner (items_view l.fn.items.items))
