use Rattle.std.proofs.Common.{◌≡◌, ◌+◌, map, length}
use Rattle.yspec.specs.Forest.{Forest}
use Rattle.yspec.specs.linking.Source as sources
use Rattle.yspec.specs.linking.Prefixes as spec
use Rattle.ybase_preorder.specs.View.{row_by}
use Rattle.ylink_arguments.specs.NameView.{names_view}
use Rattle.ylink_names.specs.PrefixView.{IsOf}
use Rattle.yschema_expand.specs.NodeView.{numbered_part}
use Rattle.yschema_expand.specs.Targets.{node_seen, found_at}
use Rattle.yschema_expand.proofs.TargetLemmas.{found_from}
use Rattle.yschema_expand.proofs.target.node_at.Given as goal

abbrev pub invariant-loop-name : goal.invariant-loop-name
invariant-loop-name l = record {
  so_far : (modules : Forest sources.Source) → IsOf l.prefixes modules
      → found_from (map (spec.node_name modules l.home l.owner) (names_view l.left)) (node_seen l.found)
      ≡ found_at (map (spec.node_name modules l.home l.owner) (names_view l.fn.path)) l.fn.nodes.number (row_by numbered_part l.fn.nodes);
  below : l.found.children.number ≡ l.found.number + 1;
}

abbrev pub decreases-loop-name : goal.decreases-loop-name
decreases-loop-name l = length l.left
