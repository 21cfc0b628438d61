use Rattle.std.proofs.Common.{arith}
use Rattle.ybase_graph.proofs.EdgeLemmas.{within_more}
use Rattle.ybase_graph.proofs.circles.node_count.Goals as goal

pub loop-edge-init : goal.loop-edge-init
loop-edge-init c = λ k d low. absurd (omega (arith, low))

pub loop-edge-preserved : goal.loop-edge-preserved
loop-edge-preserved c = within_more c.args.edges.now c.loop-edge.edge-index c.loop-edge.count c.covering-count.result
    c.loop-edge-test.true c.loop-edge.invariant c.covering-count.ensures.least _ c.covering-count.ensures.ends

pub returns : goal.returns
returns c = λ k d low. let past = c.loop-edge-test.false in c.loop-edge.invariant k d (omega (arith, low, past))
