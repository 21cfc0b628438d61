use Rattle.std.proofs.Common.{◌≡◌, ◌+◌, ◌*◌, ◌≤◌}
use Rattle.std.specs.List.{list_any}
use Rattle.yspec.specs.Forest.{row, size}
use Rattle.yspec.specs.text.Text.{is_text}
use Rattle.yspec.specs.schema.Schema.{other_name, data_row}
use Rattle.yschema_model.specs.View.{view, row_view, below_of}
use Rattle.yinst_tree.proofs.names.+others.Given as goal

-- what stands below a schema node is smaller than its row
abbrev pub decreases-is_other_in : goal.decreases-is_other_in
decreases-is_other_in l = 2 * size (row_view l.children)

abbrev pub decreases-is_other_at : goal.decreases-is_other_at
decreases-is_other_at l = 2 * size (below_of l.child) + 1

abbrev pub invariant-is_other_in-loop-child : goal.invariant-is_other_in-loop-child
invariant-is_other_in-loop-child l =
    record {
      more : (goal.iterator-is_other_in-loop-child).can_next l.child-iterator;
      ends : (goal.iterator-is_other_in-loop-child).is_finite l.child-iterator;
      smaller : size (row_view l.child-iterator) ≤ size (row_view l.children);
      found : list_any (λ n. is_text l.name (other_name (view l.schema) l.parent_module n)) (row (data_row (row_view l.child-iterator)))
          ≡ list_any (λ n. is_text l.name (other_name (view l.schema) l.parent_module n)) (row (data_row (row_view l.children)));
    }
