-- What is put into a list and taken out of it, and tests of all that a list has.
use Rattle.std.proofs.Common.{◌≡◌, ℕ, zero, suc, ◌+◌, ◌-◌, ◌<◌, ◌≤◌, Bool, true, List, [], ◌∷◌, ◌++◌, length, get_or, set, drop, take, refl, sym, ap, ◌∙◌, arith, insert, remove, slice_get, Some, take-append-drop, length-take-le}
use Rattle.std.specs.List.{list_all}
use Rattle.std.proofs.lemmas.Bool.{and_from, and_parts}
use Rattle.std.proofs.lemmas.List.Edits.{insert-append_right, remove-append_right}
use Rattle.std.proofs.lemmas.List.Folds.{list_all-append}
use Rattle.std.proofs.lemmas.Option.{none-some, same_Some}

module _ {X : Type 0} where
  pub take_set : (n : ℕ) (xs : List X) (i : ℕ) (y : X) → take n (set xs i y) ≡ set (take n xs) i y
  take_set zero xs i y = refl
  take_set (suc n) [] i y = refl
  take_set (suc n) (x ∷ xs) zero y = refl
  take_set (suc n) (x ∷ xs) (suc i) y = ap (λ l. x ∷ l) (take_set n xs i y)

  -- one in the place of another, which goes behind it
  step_on : (xs : List X) (p : ℕ) (x y : X) → slice_get xs p ≡ Some y → insert (set xs p x) (suc p) y ≡ insert xs p x
  step_on [] p x y at = absurd (none-some y at)
  step_on (z ∷ xs) zero x y at = ap (λ w. x ∷ (w ∷ xs)) (sym (same_Some z y at))
  step_on (z ∷ xs) (suc p) x y at = ap (λ l. z ∷ l) (step_on xs p x y at)

  pub stepped_on : (xs : List X) (p : ℕ) (x y : X) → slice_get xs p ≡ Some y → insert (set xs p x) (p + 1) y ≡ insert xs p x
  stepped_on xs p x y at = let next : p + 1 ≡ suc p = omega arith in ap (λ k. insert (set xs p x) k y) next ∙ step_on xs p x y at

  pub put_back : (xs : List X) (p : ℕ) (y : X) → slice_get xs p ≡ Some y → insert (remove xs p) p y ≡ xs
  put_back [] p y at = absurd (none-some y at)
  put_back (z ∷ xs) zero y at = ap (λ w. w ∷ xs) (sym (same_Some z y at))
  put_back (z ∷ xs) (suc p) y at = ap (λ l. z ∷ l) (put_back xs p y at)

  pub taken_out : (xs : List X) (p : ℕ) (y : X) → p ≤ length xs → remove (insert xs p y) p ≡ xs
  taken_out xs zero y within = refl
  taken_out [] (suc p) y within = absurd (omega (arith, within))
  taken_out (x ∷ xs) (suc p) y within = ap (λ l. x ∷ l) (taken_out xs p y (omega (arith, within)))

  pub put_in : (xs : List X) (p : ℕ) (y : X) → p ≤ length xs → slice_get (insert xs p y) p ≡ Some y
  put_in xs zero y within = refl
  put_in [] (suc p) y within = absurd (omega (arith, within))
  put_in (x ∷ xs) (suc p) y within = put_in xs p y (omega (arith, within))

  -- behind a part
  pub insert_after : (xs ys : List X) (n k : ℕ) (y : X) → length xs ≡ n → insert (xs ++ ys) (n + k) y ≡ xs ++ insert ys k y
  insert_after xs ys n k y long =
      let on : n + k - n ≡ k = omega arith in insert-append_right xs ys n (n + k) y long (omega arith) ∙ ap (λ j. xs ++ insert ys j y) on

  pub insert_behind : (n : ℕ) (xs : List X) (p : ℕ) (y : X) → n ≤ p → p ≤ length xs → insert xs p y ≡ take n xs ++ insert (drop n xs) (p - n) y
  insert_behind n xs p y from within =
      ap (λ l. insert l p y) (sym (take-append-drop n xs)) ∙ insert-append_right (take n xs) (drop n xs) n p y (length-take-le n xs (omega (arith, from, within))) from

  pub remove_behind : (n : ℕ) (xs : List X) (p : ℕ) → n ≤ p → p ≤ length xs → remove xs p ≡ take n xs ++ remove (drop n xs) (p - n)
  remove_behind n xs p from within =
      ap (λ l. remove l p) (sym (take-append-drop n xs)) ∙ remove-append_right (take n xs) (drop n xs) n p (length-take-le n xs (omega (arith, from, within))) from

  pub all_set : (p : X → Bool) (xs : List X) (i : ℕ) (y : X) → list_all p xs ≡ true → p y ≡ true → list_all p (set xs i y) ≡ true
  all_set p [] i y all here = refl
  all_set p (x ∷ xs) zero y all here = and_from (p y) (list_all p xs) here (and_parts (p x) (list_all p xs) all).1
  all_set p (x ∷ xs) (suc i) y all here =
      let parts = and_parts (p x) (list_all p xs) all in and_from (p x) (list_all p (set xs i y)) parts.0 (all_set p xs i y parts.1 here)

  pub all_at : (p : X → Bool) (xs : List X) (i : ℕ) (d : X) → list_all p xs ≡ true → i < length xs → p (get_or xs i d) ≡ true
  all_at p [] i d all within = absurd (omega (arith, within))
  all_at p (x ∷ xs) zero d all within = (and_parts (p x) (list_all p xs) all).0
  all_at p (x ∷ xs) (suc i) d all within = all_at p xs i d (and_parts (p x) (list_all p xs) all).1 (omega (arith, within))

  pub all_push : (p : X → Bool) (xs : List X) (y : X) → list_all p xs ≡ true → p y ≡ true → list_all p (xs ++ y ∷ []) ≡ true
  all_push p xs y all here = list_all-append p xs (y ∷ []) ∙ and_from (list_all p xs) (list_all p (y ∷ [])) all (and_from (p y) true here refl)

  pub all_but_last : (p : X → Bool) (xs : List X) (y : X) → list_all p (xs ++ y ∷ []) ≡ true → (list_all p xs ≡ true) × (p y ≡ true)
  all_but_last p xs y all =
      let parts = and_parts (list_all p xs) (list_all p (y ∷ [])) (sym (list_all-append p xs (y ∷ [])) ∙ all) in (parts.0, (and_parts (p y) true parts.1).0)
