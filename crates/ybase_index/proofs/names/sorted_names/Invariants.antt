use Rattle.std.proofs.Common.{◌≡◌, ℕ, ◌<◌, get_or, length, map}
use Rattle.ybase_index.specs.Names.{text_in}
use Rattle.ybase_index.specs.Sorted.{Named, AreOwn}
use Rattle.ybase_index.proofs.names.sorted_names.Given as goal

abbrev pub invariant-loop-node : goal.invariant-loop-node
invariant-loop-node l = record {
  counted : length l.names.items ≡ l.node;
  own : AreOwn (text_in (map (λ t. t.now) l.texts)) l.names.items;
  numbered : (k : ℕ) (d : Named) → k < l.node → (get_or l.names.items k d).1 ≡ k;
}
