use Rattle.std.proofs.Common.{◌≡◌}
use Rattle.yspec.specs.linking.Expansion.{is_step}
use Rattle.ybase_preorder.specs.View.{row_by}
use Rattle.ylink_names.specs.PrefixView.{node_name_view}
use Rattle.yschema_expand.specs.NodeView.{numbered_part}
use Rattle.yschema_expand.specs.Targets.{found_in}
use Rattle.yschema_expand.proofs.target.child_called.Given as goal

-- among those that are left
abbrev pub invariant-loop-node : goal.invariant-loop-node
invariant-loop-node l = record {
  more : (goal.iterator-loop-node).can_next l.node-iterator;
  ends : (goal.iterator-loop-node).is_finite l.node-iterator;
  so_far : found_in (is_step (node_name_view l.step)) l.node-iterator.number (row_by numbered_part l.node-iterator)
      ≡ found_in (is_step (node_name_view l.step)) l.fn.nodes.number (row_by numbered_part l.fn.nodes);
}
