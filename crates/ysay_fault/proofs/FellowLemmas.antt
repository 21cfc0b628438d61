-- The first other instance that passes a test, and how many pass it.
use Rattle.std.proofs.Common.{◌≡◌, ℕ, ◌+◌, ◌<◌, ◌≤◌, Bool, true, false, cond, Option, Some, None, refl, sym, ap, ◌∙◌, ◌&&◌, not, arith, subst}
use Rattle.std.proofs.lemmas.Bool.{eqb-true}
use Rattle.std.specs.Prelude.{◌==◌, option_and_then}
use Rattle.yspec.specs.Forest.{end, node, weigh_row}
use Rattle.yspec.specs.document.Document.{Stored, Tree, instances}
use Rattle.ysay_fault.specs.Fellows.{first_other, fellow_by}

module _ (test : Stored → Tree → Bool) where
  abbrev one : Stored → Tree → ℕ
  one s below = cond (test s below) 1 0

  -- it is another
  pub apart : (own position found : ℕ) (t : Tree) → first_other own position test t ≡ Some found → (found == own) ≡ false
  apart own position found end h = cc
  apart own position found (node s below after) h = by (position == own) (test s below) refl h (apart own (position + 1) found after)
    where
      by : (a b : Bool) → (position == own) ≡ a → cond (not a && b) (Some position) (first_other own (position + 1) test after) ≡ Some found
          → (first_other own (position + 1) test after ≡ Some found → (found == own) ≡ false) → (found == own) ≡ false
      by false true is h later = let same : position ≡ found = cc in subst (λ n. (n == own) ≡ false) same is
      by false false is h later = later h
      by true b is h later = later h

  -- where there is none from a position on, only the one itself passes the test
  none_behind : (own position : ℕ) (t : Tree) → own < position → first_other own position test t ≡ None → weigh_row one t ≤ 0
  none_behind own position end behind h = omega arith
  none_behind own position (node s below after) behind h =
      by (position == own) (test s below) refl h (none_behind own (position + 1) after (omega (arith, behind)))
    where
      by : (a b : Bool) → (position == own) ≡ a → cond (not a && b) (Some position) (first_other own (position + 1) test after) ≡ None
          → (first_other own (position + 1) test after ≡ None → weigh_row one after ≤ 0) → cond b 1 0 + weigh_row one after ≤ 0
      by true b is h later = absurd (omega (arith, behind, eqb-true position own is))
      by false true is h later = cc
      by false false is h later = omega (arith, later h)

  at_most_one : (own position : ℕ) (t : Tree) → first_other own position test t ≡ None → weigh_row one t ≤ 1
  at_most_one own position end h = omega arith
  at_most_one own position (node s below after) h =
      by (position == own) (test s below) refl h (at_most_one own (position + 1) after)
    where
      by : (a b : Bool) → (position == own) ≡ a → cond (not a && b) (Some position) (first_other own (position + 1) test after) ≡ None
          → (first_other own (position + 1) test after ≡ None → weigh_row one after ≤ 1) → cond b 1 0 + weigh_row one after ≤ 1
      by true true is h later = let rest = none_behind own (position + 1) after (omega (arith, eqb-true position own is)) h in omega (arith, rest)
      by true false is h later = omega (arith, later h)
      by false true is h later = cc
      by false false is h later = omega (arith, later h)

  -- among the instances of a schema node
  instances_weigh : (number : ℕ) (t : Tree) → weigh_row (λ s below. cond (s.schema_number == number) (one s below) 0) t ≡ weigh_row one (instances number t)
  instances_weigh number end = refl
  instances_weigh number (node s below after) = by (s.schema_number == number) (instances_weigh number after)
    where
      by : (b : Bool) → weigh_row (λ s below. cond (s.schema_number == number) (one s below) 0) after ≡ weigh_row one (instances number after)
          → cond b (one s below) 0 + weigh_row (λ s below. cond (s.schema_number == number) (one s below) 0) after
          ≡ weigh_row one (cond b (node s below (instances number after)) (instances number after))
      by true h = ap (λ n. one s below + n) h
      by false h = omega (arith, h)

  pub has_other : (number own : ℕ) (t : Tree) → 1 < weigh_row (λ s below. cond (s.schema_number == number) (one s below) 0) t
      → fellow_by test t number own ≡ None → ⊥
  has_other number own t several none =
      let few : weigh_row one (instances number t) ≤ 1 = at_most_one own 1 (instances number t) none in
      omega (arith, few, several, instances_weigh number t)

-- ---- what is found of what is there

pub of_given : {A B : Type 0} → (o : Option A) (x : A) (y : B) (f : A → Option B) → o ≡ Some x → option_and_then f o ≡ Some y → f x ≡ Some y
of_given o x y f is found = sym (ap (option_and_then f) is) ∙ found

pub of_some : {A B : Type 0} {P : Type 0} → (o : Option A) (y : B) (f : A → Option B) → option_and_then f o ≡ Some y → ((x : A) → f x ≡ Some y → P) → P
of_some (Some x) y f found from = from x found
of_some None y f found from = cc
