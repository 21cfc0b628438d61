use Rattle.std.proofs.Common.{◌≡◌, ◌++◌, map}
use Rattle.std.specs.List.{flat_map}
use Rattle.yspec.specs.linking.Planned.{nodes_of}
use Rattle.ybase_graph.specs.Edges.{edge_view}
use Rattle.yschema_plan.specs.NodesView.{left}
use Rattle.yschema_plan.specs.PlanView.{view}
use Rattle.yschema_types.specs.MeaningsView.{means}
use Rattle.yschema_types.specs.MeantNodes.{meant_as, target_number}
use Rattle.yschema_types.specs.ReferenceEdges.{edges_by, edges_of}
use Rattle.yschema_types.specs.TypesView.{meants_view}
use Rattle.yschema_types.proofs.meanings.meanings_of.Given as goal

abbrev pub invariant-loop-node : goal.invariant-loop-node
invariant-loop-node l =
    let p = view l.plan in
    let says = meant_as (means l.types) in
    record {
      meant : meants_view l.meant.items ++ map says (left l.node-iterator) ≡ map says (nodes_of p);
      targets : l.targets.items ++ map (target_number p says) (left l.node-iterator) ≡ map (target_number p says) (nodes_of p);
      edges : map edge_view l.edges.items ++ flat_map (λ q. edges_by p q (says q)) (left l.node-iterator) ≡ edges_of p says;
    }
