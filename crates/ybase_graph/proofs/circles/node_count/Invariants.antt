use Rattle.std.proofs.Common.{ℕ, ◌<◌, get_or}
use Rattle.ybase_graph.specs.declared.circles.Edge.{Edge}
use Rattle.ybase_graph.specs.Edges.{IsEdgeWithin}
use Rattle.ybase_graph.proofs.circles.node_count.Given as goal

abbrev pub invariant-loop-edge : goal.invariant-loop-edge
invariant-loop-edge l = (k : ℕ) (d : Edge) → k < l.edge-index → IsEdgeWithin l.count (get_or l.edges k d)
