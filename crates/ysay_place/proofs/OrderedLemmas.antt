-- Rows in order: where the instances of a schema node stand.
use Rattle.std.proofs.Common.{◌≡◌, ℕ, zero, suc, ◌+◌, ◌<◌, ◌≤◌, Bool, true, false, cond, List, [], ◌∷◌, length, get_or, refl, sym, subst, ap, ◌∙◌, arith, ltb, Some, None, option_and_then, slice_get, zero-add}
use Rattle.std.specs.List.{prefix_len}
use Rattle.std.specs.List.Sorted.{IsNonDecreasingBy, IsPartitionPoint}
use Rattle.std.proofs.lemmas.Bool.{ltb-true, ltb-false, eqb-true, eqb-false, ne_eqb}
use Rattle.std.proofs.lemmas.Option.{slice_get_past}
use Rattle.std.proofs.lemmas.List.Sums.{prefix_len_is}
use Rattle.std.specs.Prelude.{◌==◌}
use Rattle.yspec.specs.document.Sorting.{StartsAt, IsSorted}
use Rattle.yinst_tree.specs.View.{view, row_view}
use Rattle.yinst_tree.specs.declared.tree.Stored.{Stored}
use Rattle.ysay_place.specs.Instances.{instance_of}
use Rattle.ysay_place.specs.Places.{nth_instance}

abbrev pub number : Stored → ℕ
number s = (view s).0.schema_number

-- ---- by index

least_at : (m : ℕ) (row : List Stored) (k : ℕ) (d : Stored) → StartsAt m (row_view row) → IsSorted (row_view row) → k < length row → m ≤ number (get_or row k d)
least_at m [] k d starts sorted within = absurd (omega (arith, within))
least_at m (x ∷ xs) zero d starts sorted within = starts
least_at m (x ∷ xs) (suc k) d starts sorted within =
    let next = least_at (number x) xs k d sorted.0 sorted.2 (omega (arith, within)) in
    omega (arith, starts, next)

pub ascends_by_index : (row : List Stored) → IsSorted (row_view row) → IsNonDecreasingBy number row
ascends_by_index [] sorted i j d before within = absurd (omega (arith, within))
ascends_by_index (x ∷ xs) sorted zero zero d before within = omega arith
ascends_by_index (x ∷ xs) sorted zero (suc j) d before within = least_at (number x) xs j d sorted.0 sorted.2 (omega (arith, within))
ascends_by_index (x ∷ xs) sorted (suc i) zero d before within = absurd (omega (arith, before))
ascends_by_index (x ∷ xs) sorted (suc i) (suc j) d before within =
    ascends_by_index xs sorted.2 i j d (omega (arith, before)) (omega (arith, within))

-- a partition point is the length of the prefix that passes
pub partition_is : (p : Stored → Bool) (row : List Stored) (i : ℕ) → i ≤ length row
    → IsPartitionPoint (λ y. p y ≡ true) (λ y. p y ≡ false) row i → i ≡ prefix_len p row
partition_is p [] i within parts = omega (arith, within)
partition_is p (x ∷ xs) i within parts =
    sym (prefix_len_is p (x ∷ xs) i x within (λ k below. parts.0 k x (omega arith) below) (λ more. parts.1 i x (omega arith) more))

-- ---- by place

-- no node of a row in order is an instance, where all numbers are greater
none_found : (id m index : ℕ) (row : List Stored) → id < m → StartsAt m (row_view row) → IsSorted (row_view row)
    → nth_instance id index (row_view row) ≡ None
none_found id m index [] less starts sorted = refl
none_found id m zero (x ∷ xs) less starts sorted =
    rw (ne_eqb (number x) id (λ same. absurd (omega (arith, less, starts, same)))) (none_found id (number x) zero xs (omega (arith, less, starts)) sorted.0 sorted.2)
none_found id m (suc index) (x ∷ xs) less starts sorted =
    rw (ne_eqb (number x) id (λ same. absurd (omega (arith, less, starts, same)))) (none_found id (number x) (suc index) xs (omega (arith, less, starts)) sorted.0 sorted.2)

none_kept : (id m index : ℕ) (row : List Stored) → id < m → StartsAt m (row_view row) → IsSorted (row_view row)
    → option_and_then (instance_of id) (slice_get row index) ≡ None
none_kept id m index [] less starts sorted = refl
none_kept id m zero (x ∷ xs) less starts sorted = rw (ne_eqb (number x) id (λ same. absurd (omega (arith, less, starts, same)))) refl
none_kept id m (suc index) (x ∷ xs) less starts sorted = none_kept id (number x) index xs (omega (arith, less, starts)) sorted.0 sorted.2

greater : (id : ℕ) (x : Stored) → id ≤ number x → (number x == id) ≡ false → id < number x
greater id x starts is = omega (arith, starts, eqb-false (number x) id is)

-- where none is less, the instances stand in front
in_front : (id index : ℕ) (row : List Stored) → StartsAt id (row_view row) → IsSorted (row_view row)
    → nth_instance id index (row_view row) ≡ option_and_then (instance_of id) (slice_get row index)
in_front id index [] starts sorted = refl
in_front id zero (x ∷ xs) starts sorted = by (number x == id) refl
  where
    by : (b : Bool) → (number x == id) ≡ b → cond b (Some (view x)) (nth_instance id zero (row_view xs)) ≡ cond b (Some (view x)) None
    by true is = refl
    by false is = none_found id (number x) zero xs (greater id x starts is) sorted.0 sorted.2
in_front id (suc index) (x ∷ xs) starts sorted = by (number x == id) refl (in_front id index xs)
  where
    by : (b : Bool) → (number x == id) ≡ b
        → (StartsAt id (row_view xs) → IsSorted (row_view xs) → nth_instance id index (row_view xs) ≡ option_and_then (instance_of id) (slice_get xs index))
        → cond b (nth_instance id index (row_view xs)) (nth_instance id (suc index) (row_view xs)) ≡ option_and_then (instance_of id) (slice_get xs index)
    by true is rest = rest (subst (λ n. StartsAt n (row_view xs)) (eqb-true (number x) id is) sorted.0) sorted.2
    by false is rest = none_found id (number x) (suc index) xs (greater id x starts is) sorted.0 sorted.2
        ∙ sym (none_kept id (number x) index xs (greater id x starts is) sorted.0 sorted.2)

-- where the first that isn't less stands
abbrev pub first_of : ℕ → List Stored → ℕ
first_of id row = prefix_len (λ s. ltb (number s) id) row

passed : (id i : ℕ) (x : Stored) (xs : List Stored) → (number x == id) ≡ false
    → nth_instance id i (row_view (x ∷ xs)) ≡ nth_instance id i (row_view xs)
passed id zero x xs differs = rw differs refl
passed id (suc i) x xs differs = rw differs refl

one_more : (p i : ℕ) → suc (p + i) ≡ (1 + p) + i
one_more p i = omega arith

pub nth_by_place : (id index : ℕ) (row : List Stored) → IsSorted (row_view row)
    → nth_instance id index (row_view row) ≡ option_and_then (instance_of id) (slice_get row (first_of id row + index))
nth_by_place id index [] sorted = refl
nth_by_place id index (x ∷ xs) sorted = by (ltb (number x) id) refl (nth_by_place id index xs sorted.2)
  where
    by : (b : Bool) → ltb (number x) id ≡ b
        → nth_instance id index (row_view xs) ≡ option_and_then (instance_of id) (slice_get xs (first_of id xs + index))
        → nth_instance id index (row_view (x ∷ xs)) ≡ option_and_then (instance_of id) (slice_get (x ∷ xs) (cond b (1 + first_of id xs) 0 + index))
    by true is rest =
        let less = ltb-true (number x) id is in
        passed id index x xs (ne_eqb (number x) id (λ same. absurd (omega (arith, less, same))))
        ∙ (rest ∙ ap (λ i. option_and_then (instance_of id) (slice_get (x ∷ xs) i)) (one_more (first_of id xs) index))
    by false is rest = in_front id index (x ∷ xs) (ltb-false (number x) id is) sorted
        ∙ ap (λ i. option_and_then (instance_of id) (slice_get (x ∷ xs) i)) (sym (zero-add index))

pub none_behind : (id index : ℕ) (row : List Stored) → IsSorted (row_view row) → length row ≤ first_of id row + index
    → nth_instance id index (row_view row) ≡ None
none_behind id index row sorted past =
    nth_by_place id index row sorted ∙ ap (λ o. option_and_then (instance_of id) o) (slice_get_past row (first_of id row + index) past)
