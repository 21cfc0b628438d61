use Rattle.std.proofs.Common.{◌≡◌, ◌++◌, Some, drop, map}
use Rattle.yspec.specs.linking.Planned as planned
use Rattle.yspec.specs.linking.SchemaNodes.{nodes_named}
use Rattle.ybase_preorder.specs.View.{label_by}
use Rattle.ylink_arguments.specs.NameView.{names_view}
use Rattle.ylink_grammar.specs.SourceView.{source_view}
use Rattle.yschema_plan.specs.NodesView.{node_view}
use Rattle.yschema_plan.specs.PlanView.{view}
use Rattle.yschema_resolve.specs.TuplesView.{ways_named, way_view}
use Rattle.yschema_resolve.proofs.tuples.ways_of_unique.Given as goal

abbrev pub invariant-loop-path : goal.invariant-loop-path
invariant-loop-path l = let p = node_view l.list in
    map way_view l.ways.items
    ++ map (λ names. planned.way (view l.plan) (Some p.number) (nodes_named (view l.plan) p (label_by source_view l.fn.statement) names))
    (map (λ path. names_view path.items) (drop l.path-index l.path-items))
    ≡ ways_named (view l.plan) p (label_by source_view l.fn.statement)
