use Rattle.std.proofs.Common.{◌≡◌, ◌≢◌, ℕ, ◌<◌, []}
use Rattle.ybase_graph.specs.Search.{IsSound, IsCounted, state_at}
use Rattle.ybase_graph.specs.declared.search.State.TheVariants.{Unseen}
use Rattle.ybase_graph.proofs.search.ranks.Given as goal

abbrev pub invariant-loop-node : goal.invariant-loop-node
invariant-loop-node l = record {
  sound : IsSound l.graph l.search;
  counted : IsCounted l.graph l.search;
  ended : l.search.segments.items ≡ [];
  seen : (v : ℕ) → v < l.node → state_at l.search.states.items v ≢ Unseen;
}
