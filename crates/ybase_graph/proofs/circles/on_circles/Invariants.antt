use Rattle.std.proofs.Common.{◌≡◌, map, take}
use Rattle.yspec.specs.linking.Graph.{is_on_circle}
use Rattle.ybase_graph.specs.Edges.{edge_view}
use Rattle.ybase_graph.proofs.circles.on_circles.Given as goal

abbrev pub invariant-loop-edge : goal.invariant-loop-edge
invariant-loop-edge l = l.flags.items ≡ map (λ k. is_on_circle (map edge_view l.edges) (edge_view k)) (take l.edge-index l.edges)
