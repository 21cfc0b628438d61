use Rattle.std.proofs.Common.{◌≡◌, ◌+◌, ◌*◌, ◌≤◌, [], Some}
use Rattle.yspec.specs.Forest.{size}
use Rattle.yspec.specs.text.Text.{is_text}
use Rattle.yspec.specs.schema.Schema.{written_name, data_row, first_in_row}
use Rattle.yschema_model.specs.Layout.{schema_view}
use Rattle.yschema_model.specs.View.{row_view, below_of}
use Rattle.yschema_model.proofs.written.+written.Given as goal

-- what stands below a schema node is smaller than its row
abbrev pub decreases-first_written : goal.decreases-first_written
decreases-first_written l = 2 * size (row_view l.children)

abbrev pub decreases-written_at : goal.decreases-written_at
decreases-written_at l = 2 * size (below_of l.child) + 1

abbrev pub invariant-first_written-loop-child : goal.invariant-first_written-loop-child
invariant-first_written-loop-child l =
    record {
      more : (goal.iterator-first_written-loop-child).can_next l.child-iterator;
      ends : (goal.iterator-first_written-loop-child).is_finite l.child-iterator;
      smaller : size (row_view l.child-iterator) ≤ size (row_view l.children);
      found : first_in_row (λ n. is_text l.name (written_name (schema_view l.modules []) (Some l.parent_module) n)) (data_row (row_view l.child-iterator))
          ≡ first_in_row (λ n. is_text l.name (written_name (schema_view l.modules []) (Some l.parent_module) n)) (data_row (row_view l.children));
    }
