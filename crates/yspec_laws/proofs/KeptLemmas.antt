-- What augments add takes no target away.
use Rattle.std.proofs.Common.{◌≡◌, ℕ, zero, suc, Bool, true, false, cond, List, [], ◌∷◌, length, Option, Some, None, refl, sym, ap, ◌∙◌, subst, inl, inr, arith}
use Rattle.std.specs.Prelude.{⊤, ◌⊎◌, find, option_map, option_and_then}
use Rattle.std.specs.List.{Contains}
use Rattle.std.specs.Option.{option_map_or}
use Rattle.std.proofs.lemmas.Bool.{false≢true}
use Rattle.yspec.specs.Forest.{Forest, end, node, row, join, change_nth, change_below, below_nth}
use Rattle.yspec.specs.linking.Source.{Source}
use Rattle.yspec.specs.linking.Prefixes.{NodeName}
use Rattle.yspec.specs.linking.Parts.{Part, within}
use Rattle.yspec.specs.linking.Expansion.{is_step, part_at, changed_at, expanded_parts}
use Rattle.yspec.specs.linking.Augments.{Augment, added_below, added_nodes, applied, augmented, augments_of, done_first, first_that, in_turn, is_ready, marked, may_take, target_steps}
use Rattle.yspec_laws.proofs.ListLemmas.{later_of}

-- ---- forests with more behind in their rows

abbrev Extends : Forest Part → Forest Part → Type 0
Extends end g = ⊤
Extends (node p below after) end = ⊥
Extends (node p below after) (node q inner rest) = (p ≡ q) × (Extends below inner) × Extends after rest

extends_itself : (f : Forest Part) → Extends f f
extends_itself end = tt
extends_itself (node p below after) = (refl, extends_itself below, extends_itself after)

extends_on : (f g h : Forest Part) → Extends f g → Extends g h → Extends f h
extends_on end g h one two = tt
extends_on (node p below after) end h one two = absurd one
extends_on (node p below after) (node q inner rest) end one two = absurd two
extends_on (node p below after) (node q inner rest) (node r deep last) one two =
    (one.0 ∙ two.0, extends_on below inner deep one.1 two.1, extends_on after rest last one.2 two.2)

extends_joined : (f g : Forest Part) → Extends f (join f g)
extends_joined end g = tt
extends_joined (node p below after) g = (refl, extends_itself below, extends_joined after g)

-- ---- what is found there is found as before

first_kept : (test : Part → Bool) (f g : Forest Part) → Extends f g → (p : Part) → find test (row f) ≡ Some p → find test (row g) ≡ Some p
first_kept test end g more p e = absurd cc
first_kept test (node l below after) end more p e = absurd more
first_kept test (node l below after) (node m inner rest) more p e =
    subst (λ x. cond (test x) (Some x) (find test (row rest)) ≡ Some p) more.0 (by (test l) e (first_kept test after rest more.2 p))
  where
    by : (b : Bool) → cond b (Some l) (find test (row after)) ≡ Some p → (find test (row after) ≡ Some p → find test (row rest) ≡ Some p)
        → cond b (Some l) (find test (row rest)) ≡ Some p
    by true e others = e
    by false e others = others e

below_kept : (test : Part → Bool) (f g : Forest Part) → Extends f g → (r : Forest Part) → below_nth test 0 f ≡ Some r
    → (s : Forest Part) × (below_nth test 0 g ≡ Some s) × Extends r s
below_kept test end g more r e = absurd cc
below_kept test (node l below after) end more r e = absurd more
below_kept test (node l below after) (node m inner rest) more r e =
    subst (λ x. (s : Forest Part) × (cond (test x) (Some inner) (below_nth test 0 rest) ≡ Some s) × Extends r s) more.0
    (by (test l) e (below_kept test after rest more.2 r))
  where
    by : (b : Bool) → cond b (Some below) (below_nth test 0 after) ≡ Some r
        → (below_nth test 0 after ≡ Some r → (s : Forest Part) × (below_nth test 0 rest ≡ Some s) × Extends r s)
        → (s : Forest Part) × (cond b (Some inner) (below_nth test 0 rest) ≡ Some s) × Extends r s
    by true e others = (inner, refl, let same : below ≡ r = cc in subst (λ x. Extends x inner) same more.1)
    by false e others = others e

part_kept : (steps : List NodeName) (f g : Forest Part) → Extends f g → (p : Part) → part_at steps f ≡ Some p → part_at steps g ≡ Some p
part_kept [] f g more p e = absurd cc
part_kept (step ∷ []) f g more p e = first_kept (is_step step) f g more p e
part_kept (step ∷ next ∷ steps) f g more p e = by (below_nth (is_step step) 0 f) refl e (part_kept (next ∷ steps))
  where
    by : (o : Option (Forest Part)) → below_nth (is_step step) 0 f ≡ o → option_and_then (part_at (next ∷ steps)) o ≡ Some p
        → ((f g : Forest Part) → Extends f g → (p : Part) → part_at (next ∷ steps) f ≡ Some p → part_at (next ∷ steps) g ≡ Some p)
        → option_and_then (part_at (next ∷ steps)) (below_nth (is_step step) 0 g) ≡ Some p
    by None is e inner = absurd cc
    by (Some r) is e inner =
        let there = below_kept (is_step step) f g more r is in
        ap (option_and_then (part_at (next ∷ steps))) there.1 ∙ inner r there.0 there.2 p e

-- ---- what is added stands behind

module _ (number : ℕ) (added : Forest Part) where
  added_there : (test : Part → Bool) (f : Forest Part) → Extends f (change_nth test 0 (added_below number added) f)
  added_there test end = tt
  added_there test (node l below after) = by (test l) (added_there test after)
    where
      by : (b : Bool) → Extends after (change_nth test 0 (added_below number added) after)
          → Extends (node l below after) (cond b (node l (join below (marked number (within l.source added))) after) (node l below (change_nth test 0 (added_below number added) after)))
      by true rest = (refl, extends_joined below (marked number (within l.source added)), extends_itself after)
      by false rest = (refl, extends_itself below, rest)

  changed_inside : (change : Forest Part → Forest Part) → ((f : Forest Part) → Extends f (change f)) → (test : Part → Bool) (f : Forest Part)
      → Extends f (change_below test 0 change f)
  changed_inside change inner test end = tt
  changed_inside change inner test (node l below after) = by (test l) (changed_inside change inner test after)
    where
      by : (b : Bool) → Extends after (change_below test 0 change after)
          → Extends (node l below after) (cond b (node l (change below) after) (node l below (change_below test 0 change after)))
      by true rest = (refl, inner below, extends_itself after)
      by false rest = (refl, extends_itself below, rest)

  added_along : (steps : List NodeName) (f : Forest Part) → Extends f (changed_at steps (added_below number added) f)
  added_along [] f = extends_itself f
  added_along (step ∷ []) f = added_there (is_step step) f
  added_along (step ∷ next ∷ steps) f =
      changed_inside (changed_at (next ∷ steps) (added_below number added)) (added_along (next ∷ steps)) (is_step step) f

-- ---- in turn

module _ (modules : Forest Source) where
  abbrev turns : ℕ → Forest Part → List Augment → Forest Part × List Augment
  turns = in_turn (is_ready modules) (applied modules)

  applied_extends : (a : Augment) (f : Forest Part) → Extends f (applied modules a f)
  applied_extends a f = added_along a.source.number (added_nodes modules a) (target_steps modules a) f

  turns_extend : (times : ℕ) (f : Forest Part) (waiting : List Augment) → Extends f (turns times f waiting).0
  unfolding in_turn
  turns_extend zero f waiting = extends_itself f
  turns_extend (suc times) f waiting = by (first_that (is_ready modules f) waiting) (turns_extend times)
    where
      by : (o : Option (Augment × List Augment)) → ((g : Forest Part) (left : List Augment) → Extends g (turns times g left).0)
          → Extends f (done_first (applied modules) (turns times) f waiting o).0
      by None more = extends_itself f
      by (Some found) more = extends_on f (applied modules found.0 f) (turns times (applied modules found.0 f) found.1).0
          (applied_extends found.0 f) (more (applied modules found.0 f) found.1)

  -- what is ready stays so
  ready_kept : (f g : Forest Part) → Extends f g → (a : Augment) → is_ready modules f a ≡ true → is_ready modules g a ≡ true
  ready_kept f g more a is = by (part_at (target_steps modules a) f) refl is
    where
      by : (o : Option Part) → part_at (target_steps modules a) f ≡ o → option_map_or (λ p. may_take p a.given) o false ≡ true → is_ready modules g a ≡ true
      by None e is = absurd (false≢true is)
      by (Some p) e is = ap (λ o. option_map_or (λ q. may_take q a.given) o false) (part_kept (target_steps modules a) f g more p e) ∙ is

-- ---- each of some things is the first that is ready, or another

module _ {A : Type 0} (test : A → Bool) where
  first_or_other : (waiting : List A) (found : A × List A) → first_that test waiting ≡ Some found → (a : A) → Contains waiting a
      → ((a ≡ found.0) × (test a ≡ true)) ⊎ Contains found.1 a
  first_or_other [] found e a at = absurd (let within = at.1 in omega (arith, within))
  first_or_other (x ∷ others) found e a at = by (test x) refl e (first_or_other others)
    where
      own : (b : Bool) → test x ≡ b → b ≡ true → (y : A) → y ≡ x → Contains (x ∷ others) a → ((a ≡ y) × (test a ≡ true)) ⊎ Contains others a
      own b is passes y same (zero, low, first) = inl (sym first ∙ sym same, ap test (sym first) ∙ (is ∙ passes))
      own b is passes y same (suc k, low, later) = inr (k, omega (arith, low), later)

      behind : (o : Option (A × List A)) → first_that test others ≡ o → option_map (λ (f : A × List A). (f.0, x ∷ f.1)) o ≡ Some found
          → ((found : A × List A) → first_that test others ≡ Some found → (a : A) → Contains others a → ((a ≡ found.0) × (test a ≡ true)) ⊎ Contains found.1 a)
          → Contains (x ∷ others) a → ((a ≡ found.0) × (test a ≡ true)) ⊎ Contains found.1 a
      behind None is e rest there = absurd cc
      behind (Some first) is e rest there =
          subst (λ (f : A × List A). ((a ≡ f.0) × (test a ≡ true)) ⊎ Contains f.1 a) (let same : (first.0, x ∷ first.1) ≡ found = cc in same) (place there)
        where
          place : Contains (x ∷ others) a → ((a ≡ first.0) × (test a ≡ true)) ⊎ Contains (x ∷ first.1) a
          place (zero, low, here) = inr (0, omega arith, here)
          place (suc k, low, later) = elim (rest first is a (k, omega (arith, low), later)) [
            | inl it ↦ inl it
            | inr other ↦ inr (later_of a x first.1 other)
          ]

      by : (b : Bool) → test x ≡ b → cond b (Some (x, others)) (option_map (λ (f : A × List A). (f.0, x ∷ f.1)) (first_that test others)) ≡ Some found
          → ((found : A × List A) → first_that test others ≡ Some found → (a : A) → Contains others a → ((a ≡ found.0) × (test a ≡ true)) ⊎ Contains found.1 a)
          → ((a ≡ found.0) × (test a ≡ true)) ⊎ Contains found.1 a
      by true is e rest =
          subst (λ (f : A × List A). ((a ≡ f.0) × (test a ≡ true)) ⊎ Contains f.1 a) (let same : (x, others) ≡ found = cc in same) (own true is refl x refl at)
      by false is e rest = behind (first_that test others) refl e rest at

module _ (modules : Forest Source) where
  kept_in : (times : ℕ) (f : Forest Part) (waiting : List Augment) (a : Augment) → Contains waiting a
      → Contains (turns modules times f waiting).1 a ⊎ (is_ready modules (turns modules times f waiting).0 a ≡ true)
  unfolding in_turn
  kept_in zero f waiting a at = inl at
  kept_in (suc times) f waiting a at = by (first_that (is_ready modules f) waiting) refl (kept_in times)
    where
      by : (o : Option (Augment × List Augment)) → first_that (is_ready modules f) waiting ≡ o
          → ((g : Forest Part) (left : List Augment) (b : Augment) → Contains left b
          → Contains (turns modules times g left).1 b ⊎ (is_ready modules (turns modules times g left).0 b ≡ true))
          → Contains (done_first (applied modules) (turns modules times) f waiting o).1 a
          ⊎ (is_ready modules (done_first (applied modules) (turns modules times) f waiting o).0 a ≡ true)
      by None is more = inl at
      by (Some found) is more = elim (first_or_other (is_ready modules f) waiting found is a at) [
        | inl it ↦ inr (ready_kept modules f (turns modules times (applied modules found.0 f) found.1).0
            (extends_on f (applied modules found.0 f) (turns modules times (applied modules found.0 f) found.1).0 (applied_extends modules found.0 f)
            (turns_extend modules times (applied modules found.0 f) found.1)) a it.1)
        | inr other ↦ more (applied modules found.0 f) found.1 a other
      ]

pub each_kept : (modules : Forest Source) (a : Augment) → Contains (augments_of modules) a
    → Contains (augmented modules).1 a ⊎ (is_ready modules (augmented modules).0 a ≡ true)
each_kept modules a at = kept_in modules (length (augments_of modules)) (expanded_parts modules) (augments_of modules) a at
