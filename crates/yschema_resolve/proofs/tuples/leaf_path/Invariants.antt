use Rattle.std.proofs.Common.{◌≡◌, ◌++◌, drop, map}
use Rattle.yspec.specs.linking.SchemaNodes.{number_in}
use Rattle.yschema_model.specs.Layout.{numbers_of}
use Rattle.yschema_plan.specs.NodesView.{node_view}
use Rattle.yschema_resolve.proofs.tuples.leaf_path.Given as goal

abbrev pub invariant-loop-node : goal.invariant-loop-node
invariant-loop-node l = numbers_of l.path.items ++ map number_in (map node_view (drop l.node-index l.node-items)) ≡ map number_in (map node_view l.node-items)
