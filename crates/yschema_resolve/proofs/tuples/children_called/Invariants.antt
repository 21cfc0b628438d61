use Rattle.std.proofs.Common.{◌≡◌, ◌++◌, Some, drop, map, option_map}
use Rattle.yspec.specs.linking.Planned.{child_called}
use Rattle.yspec.specs.linking.Prefixes.{node_name}
use Rattle.ylink_arguments.specs.NameView.{names_view}
use Rattle.yschema_plan.specs.NodesView.{node_view}
use Rattle.yschema_plan.specs.PlanView.{view}
use Rattle.yschema_resolve.proofs.tuples.children_called.Given as goal

abbrev pub invariant-loop-name : goal.invariant-loop-name
invariant-loop-name l = map (option_map node_view) l.children.items
    ++ map (child_called (view l.plan) (Some l.parent)) (map (node_name (view l.plan).modules l.home l.owner) (names_view (drop l.name-index l.names)))
    ≡ map (child_called (view l.plan) (Some l.parent)) (map (node_name (view l.plan).modules l.home l.owner) (names_view l.names))
