use Rattle.std.proofs.Common.{◌≡◌, ◌≤◌, nat_lt}
use Rattle.yspec.specs.Forest.{size, levels}
use Rattle.ybase_preorder.specs.View.{row_view}
use Rattle.yschema_plan.proofs.levels.+are_deeper.Given as goal

abbrev pub decreases-are_deeper : goal.decreases-are_deeper
decreases-are_deeper l = size (row_view l.nodes)

-- the nodes before those that are left aren't deeper
abbrev pub invariant-loop-node : goal.invariant-loop-node
invariant-loop-node l = record {
  more : (goal.iterator-loop-node).can_next l.node-iterator;
  ends : (goal.iterator-loop-node).is_finite l.node-iterator;
  smaller : size (row_view l.node-iterator) ≤ size (row_view l.fn.nodes);
  left : nat_lt l.fn.limit (levels (row_view l.node-iterator)) ≡ nat_lt l.fn.limit (levels (row_view l.fn.nodes));
}
