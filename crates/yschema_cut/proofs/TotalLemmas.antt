-- Totals of tables and of forests: how many nodes stand from each on.
use Rattle.std.proofs.Common.{◌≡◌, ◌≢◌, ℕ, zero, suc, ◌+◌, Bool, true, false, cond, not, ◌&&◌, List, [], ◌∷◌, ◌++◌, refl, sym, ap, ap₂, ◌∙◌, append_assoc, arith, Option, Some, None}
use Rattle.std.specs.Prelude.{◌==◌, nat_lt}
use Rattle.std.proofs.lemmas.Bool.{eq-eqb, ne_eqb}
use Rattle.std.proofs.lemmas.Bool.Decides.{nat_tests}
use Rattle.yspec.specs.Forest.{Forest, node, end, size}
use Rattle.yspec.specs.linking.Parts.{Part}
use Rattle.yspec_wide.specs.Standing.{is_implied_case, is_none, is_all_cut, left_with, with_default_on, standing_by}
use Rattle.ybase_preorder.specs.Layout.{Place, places}
use Rattle.yschema_cut.specs.Totals.{at, one_more, totals_of, totals_from}

-- ---- rows of which nothing is left

pub none_sized : (f : Forest Part) (n : ℕ) → (size f + n == n) ≡ is_none f
none_sized end n = eq-eqb (0 + n) n (omega arith)
none_sized (node p below after) n = ne_eqb (suc (size below + size after) + n) n (omega arith)

some_sized : (f : Forest Part) → nat_lt 0 (size f) ≡ not (is_none f)
some_sized end = refl
some_sized (node p below after) = grind (arith, nat_tests)

swapped : (a b : Bool) → (a && b) ≡ (b && a)
swapped true true = refl
swapped true false = refl
swapped false true = refl
swapped false false = refl

module _ (holds : Part → Bool) where
  -- whether a node stands where the one above it does
  abbrev pub stays : Part → Forest Part → Bool
  stays p below = holds p && not (is_implied_case p && is_all_cut below (standing_by holds below))

  pub standing_node : (p : Part) (below after : Forest Part) → standing_by holds (node p below after)
      ≡ cond (stays p below) (node (with_default_on p below (standing_by holds below)) (standing_by holds below) (standing_by holds after)) (standing_by holds after)
  unfolding standing_by
  standing_node p below after = by (holds p) (is_implied_case p && is_all_cut below (standing_by holds below))
    where
      by : (h c : Bool)
          → cond h (cond c (standing_by holds after) (node (with_default_on p below (standing_by holds below)) (standing_by holds below) (standing_by holds after))) (standing_by holds after)
          ≡ cond (h && not c) (node (with_default_on p below (standing_by holds below)) (standing_by holds below) (standing_by holds after)) (standing_by holds after)
      by true true = refl
      by true false = refl
      by false c = refl

  pub standing_end : standing_by holds end ≡ end
  unfolding standing_by
  standing_end = refl

  -- how many nodes stand of one and those below it
  pub own_size : (p : Part) (below : Forest Part) → size (standing_by holds (node p below end))
      ≡ cond (stays p below) (suc (size (standing_by holds below))) 0
  own_size p below = ap size (standing_node p below end) ∙ by (stays p below)
    where
      by : (b : Bool) → size (cond b (node (with_default_on p below (standing_by holds below)) (standing_by holds below) (standing_by holds end)) (standing_by holds end))
          ≡ cond b (suc (size (standing_by holds below))) 0
      by true = ap (λ f. suc (size (standing_by holds below) + size f)) standing_end ∙ omega arith
      by false = ap size standing_end

  parted : (p : Part) (below after : Forest Part) → size (standing_by holds (node p below after))
      ≡ size (standing_by holds (node p below end)) + size (standing_by holds after)
  parted p below after = ap size (standing_node p below after)
      ∙ (by (stays p below) ∙ ap (λ n. n + size (standing_by holds after)) (sym (own_size p below)))
    where
      by : (b : Bool) → size (cond b (node (with_default_on p below (standing_by holds below)) (standing_by holds below) (standing_by holds after)) (standing_by holds after))
          ≡ cond b (suc (size (standing_by holds below))) 0 + size (standing_by holds after)
      by true = omega arith
      by false = omega arith

  -- ---- totals

  pub at_first : (f : Forest Part) (behind : List ℕ) → at (totals_from holds f behind) 0 ≡ size (standing_by holds f) + at behind 0
  at_first end behind = let none = ap size standing_end in omega (arith, none)
  at_first (node p below after) behind =
      let rest = at_first after behind in
      let both = parted p below after in
      omega (arith, rest, both)

  pub at_behind : (f : Forest Part) (behind : List ℕ) (n : ℕ) → at (totals_from holds f behind) (size f + n) ≡ at behind n
  at_behind end behind n = ap (at behind) (omega arith)
  at_behind (node p below after) behind n =
      let later = totals_from holds after behind in
      let here : suc (size below + size after) + n ≡ suc (size below + (size after + n)) = omega arith in
      ap (at (totals_from holds (node p below after) behind)) here
      ∙ (at_behind below later (size after + n) ∙ at_behind after behind n)

  pub at_past : (f : Forest Part) (behind : List ℕ) → at (totals_from holds f behind) (size f) ≡ at behind 0
  at_past f behind =
      let plain : size f ≡ size f + 0 = omega arith in
      ap (at (totals_from holds f behind)) plain ∙ at_behind f behind 0

  -- one more, as the code tells it
  pub one_is : (p : Part) (below : Forest Part) (later : List ℕ)
      → one_more (holds p) (is_implied_case p) (size below) (totals_from holds below later)
      ≡ size (standing_by holds (node p below end)) + at later 0
  one_is p below later =
      let s = size (standing_by holds below) in
      let n = at later 0 in
      let u = totals_from holds below later in
      let inside : at u 0 ≡ s + n = at_first below later in
      let behind : at u (size below) ≡ n = at_past below later in
      let cut : (nat_lt 0 (size below) && (at u 0 == at u (size below))) ≡ is_all_cut below (standing_by holds below) =
      ap₂ (λ a b. a && b) (some_sized below) (ap₂ (λ a b. a == b) inside behind ∙ none_sized (standing_by holds below) n)
      ∙ swapped (not (is_none below)) (is_none (standing_by holds below)) in
      ap (λ c. cond (holds p && not (is_implied_case p && c)) (at u 0 + 1) (at u (size below))) cut
      ∙ (by (stays p below) inside behind ∙ ap (λ k. k + n) (sym (own_size p below)))
    where
      by : (b : Bool) → at (totals_from holds below later) 0 ≡ size (standing_by holds below) + at later 0
          → at (totals_from holds below later) (size below) ≡ at later 0
          → cond b (at (totals_from holds below later) 0 + 1) (at (totals_from holds below later) (size below))
          ≡ cond b (suc (size (standing_by holds below))) 0 + at later 0
      by true inside behind = omega (arith, inside)
      by false inside behind = omega (arith, behind)

  pub totals_are : (f : Forest Part) (parent : Option ℕ) (number : ℕ) (ps : List (Place Part))
      → totals_of holds (places parent number f ++ ps) ≡ totals_from holds f (totals_of holds ps)
  totals_are end parent number ps = refl
  totals_are (node p below after) parent number ps =
      let behind = places parent (number + suc (size below)) after in
      let rest : totals_of holds ((places (Some number) (number + 1) below ++ behind) ++ ps) ≡ totals_from holds below (totals_from holds after (totals_of holds ps)) =
      ap (totals_of holds) (append_assoc (places (Some number) (number + 1) below) behind ps)
      ∙ (totals_are below (Some number) (number + 1) (behind ++ ps)
      ∙ ap (totals_from holds below) (totals_are after parent (number + suc (size below)) ps)) in
      ap (λ later. one_more (holds p) (is_implied_case p) (size below) later ∷ later) rest
      ∙ ap (λ k. k ∷ totals_from holds below (totals_from holds after (totals_of holds ps)))
      (one_is p below (totals_from holds after (totals_of holds ps)))
