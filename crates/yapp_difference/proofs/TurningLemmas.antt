-- Which positions an edit turns.
use Rattle.std.proofs.Common.{◌≡◌, Result, Ok, Err, ◌∙◌}
use Rattle.std.specs.Prelude.{IfOk}

pub given_so : {X E V : Type 0} (see : X → V) (a b : V) (r : Result X E) → a ≡ b → IfOk r (λ x. see x ≡ a) → IfOk r (λ x. see x ≡ b)
given_so see a b (Ok x) same is = is ∙ same
given_so see a b (Err e) same is = tt
