-- Flags, one for each key that others of a row may have.
use Rattle.std.proofs.Common.{◌≡◌, ℕ, suc, ◌+◌, Bool, false, List, [], ◌∷◌, length, refl, ap, ap₂, ◌∙◌, arith, slice_get}
use Rattle.std.specs.Prelude.{unwrap_or}
use Rattle.ylive_facts.specs.Telling.{flags_from}

pub flags_are : (flags : List Bool) (is_set : ℕ → Bool) (k : ℕ) → ((u : ℕ) → unwrap_or (slice_get flags u) false ≡ is_set (k + u)) → flags ≡ flags_from is_set k (length flags)
flags_are [] is_set k each = refl
flags_are (b ∷ bs) is_set k each =
    let none : k + 0 ≡ k = omega arith in
    ap₂ (λ (x : Bool) (xs : List Bool). x ∷ xs) (each 0 ∙ ap is_set none)
    (flags_are bs is_set (k + 1) (λ u. let next : k + suc u ≡ k + 1 + u = omega arith in each (suc u) ∙ ap is_set next))
