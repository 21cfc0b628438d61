use Rattle.std.proofs.Common.{take}
use Rattle.ybase_graph.specs.Edges.{HaveTargets}
use Rattle.ybase_graph.proofs.circles.targets.Given as goal

abbrev pub invariant-loop-edge : goal.invariant-loop-edge
invariant-loop-edge l = HaveTargets l.count (take l.edge-index l.edges) l.rows.items
