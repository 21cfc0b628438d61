use Rattle.ybase_graph.proofs.EdgeLemmas.{none_more}
use Rattle.ybase_graph.proofs.circles.no_targets.Goals as goal

pub loop-preserved : goal.loop-preserved
loop-preserved c = none_more c.loop.counter c.loop.rows.items c.push.new.self.items c.new.result c.loop.invariant c.new.ensures.items c.in_ok-push.ensures.items
