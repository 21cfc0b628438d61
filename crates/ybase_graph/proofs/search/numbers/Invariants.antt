use Rattle.std.proofs.Common.{◌≡◌, map, take}
use Rattle.ybase_graph.specs.Search.{rank_of}
use Rattle.ybase_graph.proofs.search.numbers.Given as goal

abbrev pub invariant-loop-state : goal.invariant-loop-state
invariant-loop-state l = l.ranks.items ≡ map rank_of (take l.state-index l.states)
