use Rattle.std.proofs.Common.{◌≡◌, map, drop}
use Rattle.ybase_graph.specs.Edges.{edge_view}
use Rattle.yschema_types.specs.ReferenceEdges.{circled, source_on}
use Rattle.yschema_types.specs.Marks.{marked_by}
use Rattle.yschema_types.proofs.types.all_circles.Given as goal

abbrev pub invariant-loop-number : goal.invariant-loop-number
invariant-loop-number l = let edges = map edge_view l.edges in
    marked_by (source_on edges) l.circles.items (map edge_view (drop l.number l.edges)) ≡ circled l.count edges
