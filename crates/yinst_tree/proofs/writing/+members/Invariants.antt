use Rattle.std.proofs.Common.{◌≡◌, ◌+◌, ◌*◌, ◌≤◌, Some, drop}
use Rattle.serde_json.specs.View as json
use Rattle.yspec.specs.Forest.{size}
use Rattle.yspec.specs.document.Writing.{written_items}
use Rattle.yschema_model.specs.View as schema_view
use Rattle.yinst_tree.specs.View.{row_view}
use Rattle.yinst_tree.specs.Walk.{walked, members_in}
use Rattle.yinst_tree.proofs.WriteLemmas.{followed}
use Rattle.yinst_tree.proofs.writing.+members.Given as goal

-- what stands below a schema node is smaller than its row
abbrev pub decreases-members_of : goal.decreases-members_of
decreases-members_of l = 6 * size (schema_view.row_view l.children) + 1

abbrev pub decreases-put_row : goal.decreases-put_row
decreases-put_row l = 6 * size (schema_view.row_view l.children)

abbrev pub decreases-put_child : goal.decreases-put_child
decreases-put_child l = 6 * size (schema_view.below_of l.child) + 5

abbrev pub decreases-put_instances : goal.decreases-put_instances
decreases-put_instances l = 6 * size (schema_view.below_of l.child) + 4

abbrev pub decreases-items_of : goal.decreases-items_of
decreases-items_of l = 6 * size (schema_view.below_of l.child) + 3

abbrev pub decreases-value_of : goal.decreases-value_of
decreases-value_of l = 6 * size (schema_view.below_of l.child) + 2

-- what is put in, and what is left, with the schema nodes that are left to walk
abbrev pub invariant-put_row-loop-child : goal.invariant-put_row-loop-child
invariant-put_row-loop-child l =
    let s = schema_view.view l.schema in
    record {
      more : (goal.iterator-put_row-loop-child).can_next l.child-iterator;
      ends : (goal.iterator-put_row-loop-child).is_finite l.child-iterator;
      smaller : size (schema_view.row_view l.child-iterator) ≤ size (schema_view.row_view l.fn.children);
      walked : walked s l.parent_module (schema_view.row_view l.child-iterator) (json.members_view l.members.entries, row_view l.rest)
          ≡ walked s l.parent_module (schema_view.row_view l.fn.children) (json.members_view l.fn.members.entries, row_view l.fn.row);
    }

-- the items so far, with those that are left
abbrev pub invariant-items_of-loop-stored : goal.invariant-items_of-loop-stored
invariant-items_of-loop-stored l =
    let s = schema_view.view l.schema in
    let n = schema_view.label_of l.child in
    let inner = members_in s (Some n.module_number) (schema_view.below_of l.child) in
    followed l.items.items (written_items n.kind inner (row_view (drop l.stored-index l.found))) ≡ written_items n.kind inner (row_view l.found)
