use Rattle.std.proofs.Common.{◌≡◌, drop, map}
use Rattle.ytext.specs.View.{view}
use Rattle.ysay_nodes.specs.Needed.{of_nodes}
use Rattle.ysay_nodes.proofs.needed.of_nodes.Given as goal

abbrev pub invariant-loop-node : goal.invariant-loop-node
invariant-loop-node l = of_nodes (map (λ s. view s.now) (drop l.node-index l.nodes)) ≡ of_nodes (map (λ s. view s.now) l.nodes)
