-- What a sink's calls add up to.
use Rattle.std.proofs.Common.{◌≡◌, ℕ, zero, suc, ◌+◌, List, ◌++◌, take, drop, Option, Some, None, refl, sym, ap, ◌∙◌, append_assoc, take-add}
use Rattle.ybase_output.specs.Sink.{followed_by, none_taken}

-- one part taken after another is a longer beginning taken
pub followed_twice : (t : Option (List ℕ)) (xs : List ℕ) (i n : ℕ) → followed_by (followed_by t (take i xs)) (take n (drop i xs)) ≡ followed_by t (take (i + n) xs)
followed_twice None xs i n = refl
followed_twice (Some before) xs i n = ap Some (append_assoc before (take i xs) (take n (drop i xs)) ∙ ap (λ (more : List ℕ). before ++ more) (sym (take-add i n xs)))

-- a call that takes something hasn't failed
pub not_failed : (n : ℕ) (part : List ℕ) → (n ≡ 0 → ⊥) → none_taken n part ≡ 0
not_failed zero part taken = absurd (taken refl)
not_failed (suc n) part taken = refl
