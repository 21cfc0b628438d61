use Rattle.std.proofs.Common.{arith}
use Rattle.ybase_graph.proofs.search.mark.Goals as goal

pub returns : goal.returns
returns c = record {
  count = c.loop-place.invariant.count;
  marked = λ i h within. c.loop-place.invariant.marked i h (omega arith);
  others = λ v never. c.loop-place.invariant.others v (λ i h low. never i h (omega arith));
}
