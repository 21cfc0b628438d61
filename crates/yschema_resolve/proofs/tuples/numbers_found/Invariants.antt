use Rattle.std.proofs.Common.{◌≡◌, ◌++◌, drop, map, option_map}
use Rattle.std.specs.List.{filter_map}
use Rattle.yspec.specs.linking.SchemaNodes.{number_in}
use Rattle.yschema_plan.specs.NodesView.{node_view}
use Rattle.yschema_resolve.proofs.tuples.numbers_found.Given as goal

abbrev pub invariant-loop-node : goal.invariant-loop-node
invariant-loop-node l = l.numbers.items ++ map number_in (filter_map (option_map node_view) (drop l.node-index l.nodes))
    ≡ map number_in (filter_map (option_map node_view) l.nodes)
