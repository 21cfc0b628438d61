use Rattle.std.proofs.Common.{◌≡◌, ◌≢◌, ℕ, ◌<◌, ◌≤◌, length}
use Rattle.ybase_graph.specs.Search.{state_at, node_at}
use Rattle.ybase_graph.specs.declared.search.State.TheVariants.{Done}
use Rattle.ybase_graph.proofs.search.mark.Given as goal

abbrev pub invariant-loop-place : goal.invariant-loop-place
invariant-loop-place l = record {
  count : length l.states.items ≡ length l.fn.states.items;
  marked : (i : ℕ) → l.first ≤ i → i < l.place → state_at l.states.items (node_at l.path i) ≡ Done l.rank;
  others : (v : ℕ) → ((i : ℕ) → l.first ≤ i → i < l.place → node_at l.path i ≢ v) → state_at l.states.items v ≡ state_at l.fn.states.items v;
}
