use Rattle.std.proofs.Common.{◌≡◌, drop, map}
use Rattle.std.specs.List.{list_any}
use Rattle.yspec.specs.linking.NodeBreaks.{is_wrong_unique}
use Rattle.yspec.specs.linking.SchemaNodes.{unique_ways}
use Rattle.yschema_plan.specs.NodesView.{node_view}
use Rattle.yschema_plan.specs.PlanView.{view}
use Rattle.yschema_resolve.specs.TuplesView.{ways_view}
use Rattle.yschema_resolve.proofs.tuples.has_wrong_unique.Given as goal

abbrev pub invariant-loop-ways : goal.invariant-loop-ways
invariant-loop-ways l = list_any is_wrong_unique (map ways_view (drop l.ways-index l.ways-items))
    ≡ list_any is_wrong_unique (unique_ways (view l.plan) (node_view l.list))
