use Rattle.std.proofs.Common.{◌≡◌, ◌++◌, drop, map}
use Rattle.yspec.specs.linking.SchemaNodes.{leaf_path, unique_ways}
use Rattle.yschema_model.specs.Layout.{numbers_of}
use Rattle.yschema_plan.specs.NodesView.{node_view}
use Rattle.yschema_plan.specs.PlanView.{view}
use Rattle.yschema_resolve.specs.TuplesView.{ways_view}
use Rattle.yschema_resolve.proofs.tuples.tuples_of.Given as goal

abbrev pub invariant-loop-ways : goal.invariant-loop-ways
invariant-loop-ways l = map (λ unique. map (λ path. numbers_of path.items) unique.items) l.uniques.items
    ++ map (map leaf_path) (map ways_view (drop l.ways-index l.ways-items))
    ≡ map (map leaf_path) (unique_ways (view l.plan) (node_view l.list))
