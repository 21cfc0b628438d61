-- What stands in a list, and how many things are made of its elements.
use Rattle.std.proofs.Common.{◌≡◌, zero, suc, ◌≤◌, ◌<◌, List, [], ◌∷◌, length, Option, Some, None, ap, ◌∙◌, arith}
use Rattle.std.specs.List.{Contains, filter_map, cons_option}

module _ {A : Type 0} where
  pub first_of : (x y : A) (xs : List A) → y ≡ x → Contains (y ∷ xs) x
  first_of x y xs e = (0, omega arith, e)

  pub later_of : (x y : A) (xs : List A) → Contains xs x → Contains (y ∷ xs) x
  later_of x y xs at = let within = at.1 in (suc at.0, omega (arith, within), at.2)

module _ {A B : Type 0} (made : A → Option B) where
  no_more : (xs : List A) → length (filter_map made xs) ≤ length xs
  no_more [] = omega arith
  no_more (x ∷ xs) = by (made x) (no_more xs)
    where
      by : (o : Option B) → length (filter_map made xs) ≤ length xs → length (cons_option o (filter_map made xs)) ≤ suc (length xs)
      by None rest = omega (arith, rest)
      by (Some y) rest = omega (arith, rest)

  -- where nothing is made of one of them
  pub fewer : (xs : List A) (x : A) → Contains xs x → made x ≡ None → length (filter_map made xs) < length xs
  fewer [] x at none = absurd (let within = at.1 in omega (arith, within))
  fewer (y ∷ xs) x (zero, within, is) none =
      let rest = no_more xs in
      let same : filter_map made (y ∷ xs) ≡ filter_map made xs = ap (λ o. cons_option o (filter_map made xs)) (ap made is ∙ none) in
      let few : length (filter_map made (y ∷ xs)) ≡ length (filter_map made xs) = ap (λ ys. length ys) same in
      omega (arith, rest, few)
  fewer (y ∷ xs) x (suc k, within, is) none = by (made y) (fewer xs x (k, omega (arith, within), is) none)
    where
      by : (o : Option B) → length (filter_map made xs) < length xs → length (cons_option o (filter_map made xs)) < suc (length xs)
      by None rest = omega (arith, rest)
      by (Some z) rest = omega (arith, rest)
