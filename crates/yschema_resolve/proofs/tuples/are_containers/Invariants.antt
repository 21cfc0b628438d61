use Rattle.std.proofs.Common.{◌≡◌, drop, map}
use Rattle.std.specs.List.{list_all}
use Rattle.yspec.specs.linking.Keyword.{container_word}
use Rattle.yspec.specs.linking.Planned.{is_a}
use Rattle.yschema_plan.specs.NodesView.{node_view}
use Rattle.yschema_resolve.proofs.tuples.are_containers.Given as goal

abbrev pub invariant-loop-node : goal.invariant-loop-node
invariant-loop-node l = list_all (is_a container_word) (map node_view (drop l.node-index l.nodes)) ≡ list_all (is_a container_word) (map node_view l.nodes)
