use Rattle.std.proofs.Common.{◌≡◌, ℕ, zero, suc, ◌+◌, List, [], ◌∷◌, ◌++◌, sym, ap, ◌∙◌, arith}
use Rattle.std.specs.List.{range_with_len}
use Rattle.ybase_graph.proofs.order.numbers.Goals as goal

range_more : (a n j : ℕ) → a + n ≡ j → range_with_len a (n + 1) ≡ range_with_len a n ++ j ∷ []
range_more a zero j e = let same : a ≡ j = omega arith in ap (λ (x : ℕ). x ∷ []) same
range_more a (suc n) j e = let up : suc n + 1 ≡ suc (n + 1) = omega arith in
    ap (range_with_len a) up ∙ ap (λ (l : List ℕ). a ∷ l) (range_more (a + 1) n j (omega arith))

pub loop-node-preserved : goal.loop-node-preserved
loop-node-preserved c = c.in_ok-push.ensures.items ∙ ap (λ (l : List ℕ). l ++ c.loop-node.node ∷ []) c.loop-node.invariant
    ∙ sym (range_more 0 c.loop-node.node c.loop-node.node (omega arith))
