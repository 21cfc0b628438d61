-- What is left once things were done in turn isn't ready.
use Rattle.std.proofs.Common.{◌≡◌, ℕ, zero, suc, ◌≤◌, Bool, true, false, cond, List, [], ◌∷◌, length, Option, Some, None, refl, ap, ◌∙◌, arith}
use Rattle.std.specs.Prelude.{option_map}
use Rattle.std.specs.List.{All}
use Rattle.std.proofs.lemmas.List.Elements.{All-cons, All-nil}
use Rattle.yspec.specs.linking.Augments.{done_first, first_that, in_turn}

-- how many others there are beside the first one
abbrev others_beside : {A : Type 0} → Option (A × List A) → ℕ
others_beside None = 0
others_beside (Some found) = suc (length found.1)

module _ {A : Type 0} (test : A → Bool) where
  abbrev found_behind : A → Option (A × List A) → Option (A × List A)
  found_behind a o = option_map (λ found. (found.0, a ∷ found.1)) o

  -- where no first one is found, none passes
  none_passes : (waiting : List A) → first_that test waiting ≡ None → All (λ a. test a ≡ false) waiting
  none_passes [] e = All-nil (λ a. test a ≡ false)
  none_passes (a ∷ others) e = by (test a) refl e (none_passes others)
    where
      behind : (o : Option (A × List A)) → found_behind a o ≡ None → o ≡ None
      behind None e = refl
      behind (Some found) e = absurd cc

      by : (b : Bool) → test a ≡ b → cond b (Some (a, others)) (found_behind a (first_that test others)) ≡ None
          → (first_that test others ≡ None → All (λ a. test a ≡ false) others) → All (λ a. test a ≡ false) (a ∷ others)
      by true is e rest = absurd cc
      by false is e rest = All-cons (λ a. test a ≡ false) a others is (rest (behind (first_that test others) e))

  -- with it they are all that there are
  one_fewer : (waiting : List A) (found : A × List A) → first_that test waiting ≡ Some found → length waiting ≡ suc (length found.1)
  one_fewer [] found e = absurd cc
  one_fewer (a ∷ others) found e = by (test a) e (one_fewer others)
    where
      behind : (o : Option (A × List A)) → ((first : A × List A) → o ≡ Some first → length others ≡ suc (length first.1))
          → found_behind a o ≡ Some found → suc (length others) ≡ suc (length found.1)
      behind None rest e = absurd cc
      behind (Some first) rest e = ap suc (rest first refl) ∙ ap others_beside e

      by : (b : Bool) → cond b (Some (a, others)) (found_behind a (first_that test others)) ≡ Some found
          → ((first : A × List A) → first_that test others ≡ Some first → length others ≡ suc (length first.1))
          → suc (length others) ≡ suc (length found.1)
      by true e rest = ap others_beside e
      by false e rest = behind (first_that test others) rest e

module _ {S A : Type 0} (ready : S → A → Bool) (apply : A → S → S) where
  pub none_ready : (turns : ℕ) (state : S) (waiting : List A) → length waiting ≤ turns
      → All (λ a. ready (in_turn ready apply turns state waiting).0 a ≡ false) (in_turn ready apply turns state waiting).1
  unfolding in_turn
  none_ready zero state [] few = All-nil (λ a. ready state a ≡ false)
  none_ready zero state (a ∷ waiting) few = absurd (omega (arith, few))
  none_ready (suc turns) state waiting few = by (first_that (ready state) waiting) refl (none_ready turns)
    where
      by : (o : Option (A × List A)) → first_that (ready state) waiting ≡ o
          → ((next : S) (left : List A) → length left ≤ turns → All (λ a. ready (in_turn ready apply turns next left).0 a ≡ false) (in_turn ready apply turns next left).1)
          → All (λ a. ready (done_first apply (in_turn ready apply turns) state waiting o).0 a ≡ false) (done_first apply (in_turn ready apply turns) state waiting o).1
      by None is more = none_passes (ready state) waiting is
      by (Some found) is more = more (apply found.0 state) found.1 (let fewer = one_fewer (ready state) waiting found is in omega (arith, few, fewer))
