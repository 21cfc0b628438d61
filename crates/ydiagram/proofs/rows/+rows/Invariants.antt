use Rattle.std.proofs.Common.{◌+◌, ◌*◌, ◌≤◌}
use Rattle.yspec.specs.Forest.{end, size}
use Rattle.ybase_output.specs.Writing.{side}
use Rattle.ybase_output.proofs.WritingLemmas.{Left}
use Rattle.yschema_model.specs.View.{row_view, below_of, view}
use Rattle.ydiagram.specs.View.{indentation_text, rest_written, row_written, shown_in}
use Rattle.ydiagram.proofs.RowLemmas.{with_held}
use Rattle.ydiagram.proofs.rows.+rows.Given as goal

-- what stands below a node is smaller than its row
abbrev pub decreases-write_row : goal.decreases-write_row
decreases-write_row g l = 3 * size (row_view l.nodes) + 1

abbrev pub decreases-write_held : goal.decreases-write_held
decreases-write_held g l = 3 * size (with_held l.held end)

abbrev pub decreases-write_node : goal.decreases-write_node
decreases-write_node g l = 3 * size (below_of l.child) + 2

-- what is left to write: the node that is held, and the row behind it
abbrev pub invariant-write_row-loop-child : goal.invariant-write_row-loop-child
invariant-write_row-loop-child g l =
    let s = view l.schema in
    let rest = with_held l.held (shown_in l.owner (row_view l.child-iterator)) in
    record {
      more : (goal.iterator-write_row-loop-child g).can_next l.child-iterator;
      ends : (goal.iterator-write_row-loop-child g).is_finite l.child-iterator;
      smaller : size rest ≤ size (row_view l.fn.nodes);
      left : Left (side g.W.Sink.taken g.W.Sink.failures l.fn.sink) (side g.W.Sink.taken g.W.Sink.failures l.sink)
          (row_written s l.shown (indentation_text l.indentation) (shown_in l.owner (row_view l.fn.nodes)))
          (rest_written s l.shown (indentation_text l.indentation) l.width rest);
    }
