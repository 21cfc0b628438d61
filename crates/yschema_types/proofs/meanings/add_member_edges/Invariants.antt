use Rattle.std.proofs.Common.{◌≡◌, ◌++◌, map, drop}
use Rattle.std.specs.List.{filter_map}
use Rattle.yspec.specs.linking.Planned as spec
use Rattle.ybase_graph.specs.Edges.{edge_view}
use Rattle.ylink.specs.TypeView.{member_view}
use Rattle.yschema_plan.specs.PlanView.{view}
use Rattle.yschema_types.specs.ReferenceEdges.{edge_from}
use Rattle.yschema_types.proofs.meanings.add_member_edges.Given as goal

abbrev pub invariant-loop-member : goal.invariant-loop-member
invariant-loop-member l = (p : spec.Planned) → l.owner ≡ p.part.owner
    → map edge_view l.edges.items ++ map (edge_from l.source) (filter_map (spec.member_target (view l.plan) p) (map member_view (drop l.member-index l.members)))
    ≡ map edge_view l.fn.edges.items ++ map (edge_from l.source) (filter_map (spec.member_target (view l.plan) p) (map member_view l.members))
