use Rattle.std.proofs.Common.{◌≡◌, ◌+◌, ◌*◌, ◌≤◌, ◌++◌, map}
use Rattle.yspec.specs.Forest.{row, size}
use Rattle.yspec.specs.schema.Schema.{data_row}
use Rattle.yschema_model.specs.View.{below_of, label_of, row_view}
use Rattle.ysay_refusal.proofs.nodes.+nodes.Given as goal

-- what stands below a schema node is smaller than its row
abbrev pub decreases-add_data_row : goal.decreases-add_data_row
decreases-add_data_row l = 2 * size (row_view l.children)

abbrev pub decreases-add_data_node : goal.decreases-add_data_node
decreases-add_data_node l = 2 * size (below_of l.child) + 1

-- the nodes so far, and those of the row that is left
abbrev pub invariant-add_data_row-loop-child : goal.invariant-add_data_row-loop-child
invariant-add_data_row-loop-child l =
    record {
      more : (goal.iterator-add_data_row-loop-child).can_next l.child-iterator;
      ends : (goal.iterator-add_data_row-loop-child).is_finite l.child-iterator;
      smaller : size (row_view l.child-iterator) ≤ size (row_view l.children);
      nodes : map label_of l.nodes.items ++ row (data_row (row_view l.child-iterator)) ≡ map label_of l.fn.nodes.items ++ row (data_row (row_view l.children));
    }
