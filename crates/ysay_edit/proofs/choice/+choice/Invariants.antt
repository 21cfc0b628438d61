use Rattle.std.proofs.Common.{◌≡◌, ◌+◌, ◌*◌, ◌≤◌}
use Rattle.yspec.specs.Forest.{size}
use Rattle.yschema_model.specs.View.{below_of, row_view}
use Rattle.ysay_edit.specs.Choice.{passed_in}
use Rattle.ysay_edit.proofs.choice.+choice.Given as goal

-- what stands below a schema node is smaller than its row
abbrev pub decreases-passed_in : goal.decreases-passed_in
decreases-passed_in l = 2 * size (row_view l.children)

abbrev pub decreases-passed_node : goal.decreases-passed_node
decreases-passed_node l = 2 * size (below_of l.child) + 1

-- what is found in the row is found in what is left of it
abbrev pub invariant-passed_in-loop-child : goal.invariant-passed_in-loop-child
invariant-passed_in-loop-child l =
    record {
      more : (goal.iterator-passed_in-loop-child).can_next l.child-iterator;
      ends : (goal.iterator-passed_in-loop-child).is_finite l.child-iterator;
      smaller : size (row_view l.child-iterator) ≤ size (row_view l.children);
      left : passed_in l.name (row_view l.child-iterator) ≡ passed_in l.name (row_view l.children);
    }
