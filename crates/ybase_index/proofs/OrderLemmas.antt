-- Names in their order, and what a binary search finds among them.
use Rattle.std.proofs.Common.{◌≡◌, ℕ, zero, suc, ◌+◌, ◌<◌, Bool, true, false, cond, ltb, List, [], ◌∷◌, length, get_or, Some, None, refl, sym, ap, ◌∙◌, arith}
use Rattle.std.specs.List.{list_all}
use Rattle.std.specs.List.Sorted.{IsNonDecreasingBy, IsPartitionPoint, IsSortedBy}
use Rattle.std.specs.Ordering.{is_eq, is_lt, ordering_index, ordering_reverse}
use Rattle.std.specs.declared.cmp.Ordering.{Ordering}
use Rattle.std.specs.declared.cmp.Ordering.TheVariants.{Less, Equal, Greater}
use Rattle.std.proofs.lemmas.Bool.{and_parts, ltb-true, ltb-false}
use Rattle.std.proofs.lemmas.Cmp.{nat_list_cmp_total}
use Rattle.std.proofs.lemmas.List.Sorted.{searchable_from_sorted}
use Rattle.std.proofs.lemmas.Map.Text.{is_eq-slice_cmp}
use Rattle.std.proofs.lemmas.Slice.Eq.{bytes_eq-Decides}
use Rattle.yspec.specs.text.Text.{Text, is_text}
use Rattle.ybase_index.specs.Names.{ascends, number_among}
use Rattle.ybase_index.specs.Sorted.{compared}

less_is : (r : Ordering) → is_lt r ≡ true → r ≡ Less
less_is Less e = refl
less_is Equal e = absurd cc
less_is Greater e = absurd cc

told_by : (t x : Text) (r : Ordering) → compared x t ≡ r → is_text t x ≡ is_eq (ordering_reverse r)
told_by t x r e = sym (is_eq-slice_cmp t x) ∙ ap is_eq (nat_list_cmp_total.antisymm t x ∙ ap ordering_reverse e)

all_at : (test : ℕ → Bool) (xs : List ℕ) (i d : ℕ) → list_all test xs ≡ true → i < length xs → test (get_or xs i d) ≡ true
all_at test [] i d all within = absurd (omega (arith, within))
all_at test (x ∷ xs) zero d all within = (and_parts (test x) (list_all test xs) all).0
all_at test (x ∷ xs) (suc i) d all within = all_at test xs i d (and_parts (test x) (list_all test xs) all).1 (omega (arith, within))

module _ (text_at : ℕ → Text) where
  abbrev after : ℕ → ℕ → Bool
  after n m = is_lt (compared (text_at n) (text_at m))

  -- a number is before each that stands behind it
  behind : (n : ℕ) (xs : List ℕ) (i d : ℕ) → ascends text_at (n ∷ xs) ≡ true → i < length xs → compared (text_at n) (text_at (get_or xs i d)) ≡ Less
  behind n xs i d e within =
      less_is (compared (text_at n) (text_at (get_or xs i d))) (all_at (after n) xs i d (and_parts (list_all (after n) xs) (ascends text_at xs) e).0 within)

  rest : (n : ℕ) (xs : List ℕ) → ascends text_at (n ∷ xs) ≡ true → ascends text_at xs ≡ true
  rest n xs e = (and_parts (list_all (after n) xs) (ascends text_at xs) e).1

  rises : (xs : List ℕ) → ascends text_at xs ≡ true → (k d : ℕ) → suc k < length xs → after (get_or xs (suc k) d) (get_or xs k d) ≡ false
  rises [] e k d within = absurd (omega (arith, within))
  rises (n ∷ xs) e zero d within =
      ap is_lt (nat_list_cmp_total.antisymm (text_at (get_or xs 0 d)) (text_at n) ∙ ap ordering_reverse (behind n xs 0 d e (omega (arith, within))))
  rises (n ∷ xs) e (suc k) d within = rises xs (rest n xs e) k d (omega (arith, within))

  sorted : (xs : List ℕ) → ascends text_at xs ≡ true → IsSortedBy after xs
  sorted xs e k d low within =
      let next : k + 1 ≡ suc k = omega arith in
      ap (λ m. after (get_or xs m d) (get_or xs k d)) next ∙ rises xs e k d (omega (arith, within))

  none_of : (t : Text) (xs : List ℕ) → ((k d : ℕ) → k < length xs → is_text t (text_at (get_or xs k d)) ≡ false) → number_among text_at xs t ≡ None
  none_of t [] none = refl
  none_of t (n ∷ xs) none =
      ap (λ b. cond b (Some n) (number_among text_at xs t)) (none 0 0 (omega arith)) ∙ none_of t xs (λ k d within. none (suc k) d (omega (arith, within)))

  -- where a binary search finds a text, it has that place's number
  pub found_at : (t : Text) (xs : List ℕ) → ascends text_at xs ≡ true → (i d : ℕ) → i < length xs → compared (text_at (get_or xs i d)) t ≡ Equal
      → number_among text_at xs t ≡ Some (get_or xs i d)
  found_at t [] e i d within is = absurd (omega (arith, within))
  found_at t (n ∷ xs) e zero d within is = ap (λ b. cond b (Some n) (number_among text_at xs t)) (told_by t (text_at n) Equal is)
  found_at t (n ∷ xs) e (suc i) d within is =
      let x = text_at (get_or xs i d) in
      let same : x ≡ t = (bytes_eq-Decides x t).0 (sym (is_eq-slice_cmp x t) ∙ ap is_eq is) in
      ap (λ b. cond b (Some n) (number_among text_at xs t)) (told_by t (text_at n) Less (ap (compared (text_at n)) (sym same) ∙ behind n xs i d e (omega (arith, within))))
      ∙ found_at t xs (rest n xs e) i d (omega (arith, within)) is

  -- where it finds none, there is none
  pub none_found_at : (t : Text) (xs : List ℕ) → ascends text_at xs ≡ true → (i : ℕ)
      → (IsNonDecreasingBy (λ n. ordering_index (compared (text_at n) t)) xs
      → IsPartitionPoint (λ n. compared (text_at n) t ≡ Less) (λ n. compared (text_at n) t ≡ Greater) xs i)
      → number_among text_at xs t ≡ None
  none_found_at t xs e i found = none_of t xs (λ k d within. by k d within (ltb k i) refl)
    where
      parted : IsPartitionPoint (λ n. compared (text_at n) t ≡ Less) (λ n. compared (text_at n) t ≡ Greater) xs i
      parted = found (searchable_from_sorted nat_list_cmp_total text_at xs t (sorted xs e))

      by : (k d : ℕ) → k < length xs → (b : Bool) → ltb k i ≡ b → is_text t (text_at (get_or xs k d)) ≡ false
      by k d within true is = told_by t (text_at (get_or xs k d)) Less (parted.0 k d (omega arith) (ltb-true k i is))
      by k d within false is = told_by t (text_at (get_or xs k d)) Greater (parted.1 k d (ltb-false k i is) within)
