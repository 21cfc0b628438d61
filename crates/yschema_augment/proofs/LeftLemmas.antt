-- The first of those that wait.
use Rattle.std.proofs.Common.{◌≡◌, ℕ, zero, suc, ◌+◌, ◌<◌, Bool, true, false, cond, List, [], ◌∷◌, length, get_or, set, replicate, arith, Some, None, refl, ap, ◌∙◌}
use Rattle.std.specs.Prelude.{option_map}
use Rattle.std.proofs.lemmas.Bool.{false≢true}
use Rattle.yspec.specs.linking.Augments.{Augment, first_that}
use Rattle.yschema_augment.specs.Picking.{left_of, count_left, is_waiting}

pub within : (ws : List Bool) (j : ℕ) → is_waiting ws j ≡ true → j < length ws
within [] j e = absurd (false≢true e)
within (w ∷ ws) zero e = omega arith
within (w ∷ ws) (suc j) e = omega (arith, within ws j e)

module _ (test : Augment → Bool) where
  abbrev First : List Augment → Augment → List Augment → Type 0
  First all a others = first_that test all ≡ Some (a, others)

  behind : (b : Bool) (a c : Augment) (all others : List Augment) → (b ≡ true → test a ≡ false) → first_that test all ≡ Some (c, others)
      → first_that test (cond b (a ∷ all) all) ≡ Some (c, cond b (a ∷ others) others)
  behind true a c all others unfit e =
      ap (λ t. cond t (Some (a, all)) (option_map (λ found. (found.0, a ∷ found.1)) (first_that test all))) (unfit refl)
      ∙ ap (option_map (λ found. (found.0, a ∷ found.1))) e
  behind false a c all others unfit e = e

  pub first_left : (ws : List Bool) (xs : List Augment) (j : ℕ) (d : Augment) → length ws ≡ length xs → is_waiting ws j ≡ true → test (get_or xs j d) ≡ true
      → ((i : ℕ) → i < j → is_waiting ws i ≡ true → test (get_or xs i d) ≡ false)
      → first_that test (left_of ws xs) ≡ Some (get_or xs j d, left_of (set ws j false) xs)
  first_left [] xs j d same waits fit before = absurd (false≢true waits)
  first_left (w ∷ ws) [] j d same waits fit before = absurd (omega (arith, same))
  first_left (w ∷ ws) (a ∷ xs) zero d same waits fit before =
      ap (λ b. first_that test (cond b (a ∷ left_of ws xs) (left_of ws xs))) waits
      ∙ ap (λ t. cond t (Some (a, left_of ws xs)) (option_map (λ found. (found.0, a ∷ found.1)) (first_that test (left_of ws xs)))) fit
  first_left (w ∷ ws) (a ∷ xs) (suc j) d same waits fit before =
      behind w a (get_or xs j d) (left_of ws xs) (left_of (set ws j false) xs) (λ e. before 0 (omega arith) e)
      (first_left ws xs j d (omega (arith, same)) waits fit (λ i less e. before (suc i) (omega (arith, less)) e))

  pub none_first : (ws : List Bool) (xs : List Augment) (d : Augment) → length ws ≡ length xs
      → ((i : ℕ) → is_waiting ws i ≡ true → test (get_or xs i d) ≡ false) → first_that test (left_of ws xs) ≡ None
  none_first [] xs d same none = refl
  none_first (w ∷ ws) [] d same none = absurd (omega (arith, same))
  none_first (w ∷ ws) (a ∷ xs) d same none = by w refl (none_first ws xs d (omega (arith, same)) (λ i e. none (suc i) e))
    where
      by : (b : Bool) → w ≡ b → first_that test (left_of ws xs) ≡ None → first_that test (cond b (a ∷ left_of ws xs) (left_of ws xs)) ≡ None
      by true e later = ap (λ t. cond t (Some (a, left_of ws xs)) (option_map (λ found. (found.0, a ∷ found.1)) (first_that test (left_of ws xs)))) (none 0 e)
          ∙ ap (option_map (λ found. (found.0, a ∷ found.1))) later
      by false e later = later

pub fewer_left : (ws : List Bool) (j : ℕ) → is_waiting ws j ≡ true → count_left ws ≡ suc (count_left (set ws j false))
fewer_left [] j waits = absurd (false≢true waits)
fewer_left (w ∷ ws) zero waits = ap (λ b. cond b 1 0 + count_left ws) waits ∙ omega arith
fewer_left (w ∷ ws) (suc j) waits = ap (λ n. cond w 1 0 + n) (fewer_left ws j waits) ∙ omega arith

pub all_left : (xs : List Augment) → left_of (replicate (length xs) true) xs ≡ xs
all_left [] = refl
all_left (a ∷ xs) = ap (λ others. a ∷ others) (all_left xs)

pub all_count : (n : ℕ) → count_left (replicate n true) ≡ n
all_count zero = refl
all_count (suc n) = omega (arith, all_count n)
