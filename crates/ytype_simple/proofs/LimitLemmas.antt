-- One step of a loop over the restrictions of a type.
use Rattle.std.proofs.Common.{◌≡◌, List, [], ◌∷◌, ◌++◌, Option, Some, None, refl, sym, ap, ◌∙◌, ℕ, ◌+◌, take, drop}
use Rattle.std.specs.Prelude.{not, slice_get, option_and_then, option_to_list, unwrap_or}
use Rattle.std.specs.Option.{option_or}
use Rattle.std.proofs.lemmas.List.Folds.{find-append}
use Rattle.yspec.specs.types.Ranges.{Part, Test, within, matching, Limit}
use Rattle.yspec.specs.types.Types.{Content, passes, excluding}
use Rattle.yspec.specs.types.Restriction.{left_within, left_after}
use Rattle.ytype_simple.specs.Limits.{numbers_in}
use Rattle.ytype_simple.proofs.RowLemmas.{here, past, taken_next}

first_one : (l : Limit) (rest : List Limit) (x : Content) → excluding (l ∷ rest) x ≡ option_or (excluding (l ∷ []) x) (excluding rest x)
first_one l rest x = find-append (λ (m : Limit). not (passes m.test x)) (l ∷ []) rest

module _ (ls : List Limit) (i : ℕ) (x : Content) where
  by_this : (o : Option Limit) → o ≡ slice_get ls i → option_or (option_and_then (λ (l : Limit). excluding (l ∷ []) x) o) (excluding (drop (i + 1) ls) x) ≡ excluding (drop i ls) x
  by_this None e = ap (λ (ms : List Limit). excluding ms x) (past ls i e)
  by_this (Some l) e = sym (first_one l (drop (i + 1) ls) x) ∙ sym (ap (λ (ms : List Limit). excluding ms x) (here ls i l e))

  pub not_this : None ≡ option_and_then (λ (l : Limit). excluding (l ∷ []) x) (slice_get ls i) → excluding (drop (i + 1) ls) x ≡ excluding (drop i ls) x
  not_this e = ap (λ (o : Option Limit). option_or o (excluding (drop (i + 1) ls) x)) e ∙ by_this (slice_get ls i) refl

  pub is_this : (m : Limit) → Some m ≡ option_and_then (λ (l : Limit). excluding (l ∷ []) x) (slice_get ls i) → Some m ≡ excluding (drop i ls) x
  is_this m e = ap (λ (o : Option Limit). option_or o (excluding (drop (i + 1) ls) x)) e ∙ by_this (slice_get ls i) refl

left_by_both : (parts : List Part) (front back : List Limit) → left_after parts (front ++ back) ≡ left_after (left_after parts front) back
left_by_both parts [] back = refl
left_by_both parts (l ∷ front) back = left_by_both (left_within parts l.test) front back

module _ (parts : List Part) (ls : List Limit) (i : ℕ) where
  abbrev before : List Part
  before = left_after parts (take i ls)

  of_test : (test : Test) → left_within before test ≡ unwrap_or (numbers_in test) before
  of_test (within fewer) = refl
  of_test (matching expression inverted) = refl

  of_last : (o : Option Limit) → left_after before (option_to_list o) ≡ unwrap_or (option_and_then (λ (l : Limit). numbers_in l.test) o) before
  of_last None = refl
  of_last (Some l) = of_test l.test

  pub left_by_last : (found : Option (List Part)) → found ≡ option_and_then (λ (l : Limit). numbers_in l.test) (slice_get ls i)
      → left_after parts (take (i + 1) ls) ≡ unwrap_or found before
  left_by_last found e =
      let o = slice_get ls i in
      ap (left_after parts) (taken_next ls i o refl) ∙ (left_by_both parts (take i ls) (option_to_list o)
      ∙ (of_last o ∙ ap (λ (f : Option (List Part)). unwrap_or f before) (sym e)))
