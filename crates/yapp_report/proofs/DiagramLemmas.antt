-- The diagrams that are left behind one.
use Rattle.std.proofs.Common.{◌≡◌, ℕ, suc, ◌+◌, ◌-◌, ◌<◌, ◌++◌, ap, ◌∙◌, arith}
use Rattle.yspec.specs.schema.Schema.{Schema}
use Rattle.yspec_run.specs.Output.{diagrams_from, placed_diagram}

pub one_left : (s : Schema) (k n : ℕ) → k < n → diagrams_from s k (n - k) ≡ placed_diagram s k ++ diagrams_from s (k + 1) (n - (k + 1))
one_left s k n less =
    let more : n - k ≡ suc (n - (k + 1)) = omega (arith, less) in
    let next : suc k ≡ k + 1 = omega arith in
    ap (diagrams_from s k) more ∙ ap (λ j. placed_diagram s k ++ diagrams_from s j (n - (k + 1))) next
