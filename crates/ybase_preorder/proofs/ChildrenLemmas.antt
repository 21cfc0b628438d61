-- The slots behind one of them.
use Rattle.std.proofs.Common.{◌≡◌, ℕ, zero, suc, ◌+◌, min, List, [], ◌∷◌, length, take, drop, Some, sym, ap, ◌∙◌, arith}
use Rattle.std.specs.Prelude.{slice_get}
use Rattle.std.proofs.lemmas.List.{take_min}
use Rattle.std.proofs.lemmas.Option.{slice_get_within}

module _ {A : Type 0} where
  drop_from : (n : ℕ) (xs : List A) (x : A) → slice_get xs n ≡ Some x → drop n xs ≡ x ∷ drop (suc n) xs
  drop_from n [] x at = absurd cc
  drop_from zero (y ∷ ys) x at = let same : y ≡ x = cc in ap (λ z. z ∷ ys) same
  drop_from (suc n) (y ∷ ys) x at = drop_from n ys x at

  pub rows_from : (n : ℕ) (xs from : List A) (x : A) → from ≡ drop (min n (length xs)) xs → slice_get xs n ≡ Some x → from ≡ x ∷ drop (n + 1) xs
  rows_from n xs from x from_is at =
      let within = slice_get_within xs n x at in
      let before : min n (length xs) ≡ n = omega (arith, within) in
      let next : suc n ≡ n + 1 = omega arith in
      from_is ∙ (ap (λ k. drop k xs) before ∙ (drop_from n xs x at ∙ ap (λ k. x ∷ drop k xs) next))

  pub rows_below : (n : ℕ) (xs from rest below : List A) (x first : A) (see : A → ℕ) (count : ℕ) → from ≡ drop (min n (length xs)) xs → from ≡ first ∷ rest
      → slice_get xs n ≡ Some x → count ≡ min (see first) (length rest) → below ≡ take count rest → below ≡ take (see x) (drop (n + 1) xs)
  rows_below n xs from rest below x first see count from_is split at count_is below_is =
      let whole : first ∷ rest ≡ x ∷ drop (n + 1) xs = sym split ∙ rows_from n xs from x from_is at in
      let same : first ≡ x = cc in
      let others : rest ≡ drop (n + 1) xs = cc in
      below_is ∙ (ap (λ k. take k rest) count_is ∙ (take_min (see first) rest ∙ (ap (λ y. take (see y) rest) same ∙ ap (take (see x)) others)))
