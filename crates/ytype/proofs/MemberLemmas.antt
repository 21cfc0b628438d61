-- One step of a loop over the members of a union.
use Rattle.std.proofs.Common.{◌≡◌, ℕ, ◌+◌, List, ◌∷◌, ◌++◌, Bool, ◌||◌, Option, Some, None, drop, refl, sym, ap, ◌∙◌, map, append_assoc}
use Rattle.std.specs.Prelude.{slice_get, option_and_then, option_to_list}
use Rattle.std.proofs.lemmas.List.{map-append}
use Rattle.std.proofs.lemmas.List.Folds.{list_any-append}
use Rattle.std.specs.List.{list_any}
use Rattle.ytype_simple.proofs.RowLemmas.{here, past, gone, at_place}
use Rattle.yspec.specs.types.Types.{Content, value, SimpleType, first_value}

by_none : (given : SimpleType → Option Content) (n : ℕ) (m : SimpleType) (rest : List SimpleType) → None ≡ given m
    → first_value given (n + 1) rest ≡ first_value given n (m ∷ rest)
by_none given n m rest e = rw (← e) refl

by_some : (given : SimpleType → Option Content) (n : ℕ) (m : SimpleType) (rest : List SimpleType) (found : Content) → Some found ≡ given m
    → Some (value (Some n) found) ≡ first_value given n (m ∷ rest)
by_some given n m rest found e = rw (← e) refl

module _ (given : SimpleType → Option Content) (ms : List SimpleType) (n : ℕ) where
  not_this : (o : Option SimpleType) → o ≡ slice_get ms n → None ≡ option_and_then given o
      → first_value given (n + 1) (drop (n + 1) ms) ≡ first_value given n (drop n ms)
  not_this None is e = ap (first_value given (n + 1)) (past ms n is ∙ gone ms n is) ∙ sym (ap (first_value given n) (gone ms n is))
  not_this (Some m) is e = by_none given n m (drop (n + 1) ms) e ∙ sym (ap (first_value given n) (here ms n m is))

  is_this : (o : Option SimpleType) → o ≡ slice_get ms n → (found : Content) → Some found ≡ option_and_then given o
      → Some (value (Some n) found) ≡ first_value given n (drop n ms)
  is_this None is found e = absurd cc
  is_this (Some m) is found e = by_some given n m (drop (n + 1) ms) found e ∙ sym (ap (first_value given n) (here ms n m is))

  pub not_first : None ≡ option_and_then given (slice_get ms n) → first_value given (n + 1) (drop (n + 1) ms) ≡ first_value given n (drop n ms)
  not_first e = not_this (slice_get ms n) refl e

  pub is_first : (found : Content) → Some found ≡ option_and_then given (slice_get ms n) → Some (value (Some n) found) ≡ first_value given n (drop n ms)
  is_first found e = is_this (slice_get ms n) refl found e

pub any_of_both : (p : SimpleType → Bool) (xs ys : List SimpleType) → list_any p (xs ++ ys) ≡ (list_any p xs || list_any p ys)
any_of_both p xs ys = list_any-append p xs ys

pub made_more : (f : SimpleType → SimpleType) (made next : List SimpleType) (ms : List SimpleType) (n : ℕ) → next ≡ map f (option_to_list (slice_get ms n))
    → (made ++ next) ++ map f (drop (n + 1) ms) ≡ made ++ map f (drop n ms)
made_more f made next ms n e =
    append_assoc made next (map f (drop (n + 1) ms))
    ∙ ap (λ (xs : List SimpleType). made ++ xs) (ap (λ (ys : List SimpleType). ys ++ map f (drop (n + 1) ms)) e
    ∙ (sym (map-append f (option_to_list (slice_get ms n)) (drop (n + 1) ms)) ∙ ap (map f) (at_place ms n)))

pub pushed_more : (all : List SimpleType) (ms : List SimpleType) (n : ℕ) → (all ++ option_to_list (slice_get ms n)) ++ drop (n + 1) ms ≡ all ++ drop n ms
pushed_more all ms n = append_assoc all (option_to_list (slice_get ms n)) (drop (n + 1) ms) ∙ ap (λ (xs : List SimpleType). all ++ xs) (at_place ms n)
