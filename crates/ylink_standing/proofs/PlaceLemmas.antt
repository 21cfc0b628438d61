-- Where features and conditions stand.
use Rattle.std.proofs.Common.{◌≡◌, ℕ, zero, suc, ◌+◌, Bool, true, false, cond, List, [], ◌∷◌, ◌++◌, Option, Some, None, refl, subst, arith}
use Rattle.std.specs.Prelude.{option_and_then, find, filter}
use Rattle.std.specs.List.{Contains}
use Rattle.std.specs.Option.{option_map_or}
use Rattle.std.proofs.lemmas.List.Elements.{Contains-append_left, Contains-append_right}
use Rattle.yspec.specs.Forest.{Forest, end, node, row}
use Rattle.yspec.specs.linking.Arguments.{Name}
use Rattle.yspec.specs.linking.Imports.{body_at, module_meant}
use Rattle.yspec.specs.linking.Scopes.{Placed, placed, statements_of}
use Rattle.yspec.specs.linking.Source.{Source}
use Rattle.yspec_wide.specs.Language.{Language}
use Rattle.yspec_wide.specs.Features.{Feature, is_named, features_in, feature_named}
use Rattle.yspec_wide.specs.Sources.{is_feature, is_condition, conditions_in}
use Rattle.ylink_names.specs.ScopeView.{placed_at}
use Rattle.ylink_standing.specs.StandingView.{feature_at}

module _ {A : Type 0} where
  pub one_more : (y x : A) (xs : List A) → Contains xs x → Contains (y ∷ xs) x
  one_more y x xs at = let within = at.1 in (suc at.0, omega (arith, within), at.2)

  pub found_in : (test : A → Bool) (x : A) (xs : List A) → find test xs ≡ Some x → Contains xs x
  found_in test x [] e = absurd cc
  found_in test x (y ∷ ys) e = by (test y) e (found_in test x ys)
    where
      by : (b : Bool) → cond b (Some y) (find test ys) ≡ Some x → (find test ys ≡ Some x → Contains ys x) → Contains (y ∷ ys) x
      by true is later = let same : y ≡ x = cc in (0, omega arith, same)
      by false is later = one_more y x ys (later is)

module _ (s : Source) (below after : Forest Source) (ancestors : List (Source × Forest Source)) (p : Placed) where
  pub under_first : Contains (placed ((s, below) ∷ ancestors) below) p → Contains (placed ancestors (node s below after)) p
  unfolding placed
  under_first at = one_more (placed_at s below ancestors) p (placed ((s, below) ∷ ancestors) below ++ placed ancestors after)
      (Contains-append_left (placed ((s, below) ∷ ancestors) below) (placed ancestors after) p at)

  pub behind_first : Contains (placed ancestors after) p → Contains (placed ancestors (node s below after)) p
  unfolding placed
  behind_first at = one_more (placed_at s below ancestors) p (placed ((s, below) ∷ ancestors) below ++ placed ancestors after)
      (Contains-append_right (placed ((s, below) ∷ ancestors) below) (placed ancestors after) p at)

pub first_there : (s : Source) (below after : Forest Source) (ancestors : List (Source × Forest Source))
    → Contains (placed ancestors (node s below after)) (placed_at s below ancestors)
unfolding placed
first_there s below after ancestors = (0, omega arith, refl)

module _ (language : Language) where
  -- a feature stands among some statements
  abbrev pub IsAmong : List Placed → Feature → Type 0
  IsAmong ps g = (p : Placed) × Contains ps p × (is_feature language p.source ≡ true) × (feature_at p ≡ g)

  features_placed : (ancestors : List (Source × Forest Source)) (f : Forest Source) (g : Feature) → Contains (features_in language f) g
      → IsAmong (placed ancestors f) g
  features_placed ancestors end g at = absurd (let within = at.1 in omega (arith, within))
  features_placed ancestors (node s below after) g at = by (is_feature language s) refl at
      (λ later. let r = features_placed ancestors after g later in (r.0, behind_first s below after ancestors r.0 r.1, r.2, r.3))
    where
      own : Feature
      own = record { source = s; below = below }

      by : (b : Bool) → is_feature language s ≡ b → Contains (cond b (own ∷ features_in language after) (features_in language after)) g
          → (Contains (features_in language after) g → IsAmong (placed ancestors (node s below after)) g) → IsAmong (placed ancestors (node s below after)) g
      by true is (zero, within, same) later = (placed_at s below ancestors, first_there s below after ancestors, is, same)
      by true is (suc k, within, same) later = later (k, omega (arith, within), same)
      by false is inside later = later inside

  body_placed : (modules : Forest Source) (m : ℕ) (g : Feature) → Contains (features_in language (body_at modules m)) g → IsAmong (statements_of modules) g
  body_placed end m g at = absurd (let within = at.1 in omega (arith, within))
  body_placed (node s below after) zero g at =
      let r = features_placed ((s, below) ∷ []) below g at in (r.0, under_first s below after [] r.0 r.1, r.2, r.3)
  body_placed (node s below after) (suc m) g at =
      let r = body_placed after m g at in (r.0, behind_first s below after [] r.0 r.1, r.2, r.3)

  -- what a name means is a feature of the set
  pub named_feature : (modules : Forest Source) (home : ℕ) (n : Name) (g : Feature) → feature_named language modules home n ≡ Some g
      → IsAmong (statements_of modules) g
  named_feature modules home n g e = by (option_map_or (module_meant modules home) n.prefix (Some home)) e
    where
      by : (o : Option ℕ) → option_and_then (λ m. find (is_named n.identifier) (features_in language (body_at modules m))) o ≡ Some g
          → IsAmong (statements_of modules) g
      by None is = absurd cc
      by (Some m) is = body_placed modules m g (found_in (is_named n.identifier) g (features_in language (body_at modules m)) is)

  -- a condition of a row stands there
  pub condition_placed : (ancestors : List (Source × Forest Source)) (f : Forest Source) (s : Source) → Contains (conditions_in language f) s
      → (below : Forest Source) × Contains (placed ancestors f) (placed_at s below ancestors) × (is_condition language s ≡ true)
  condition_placed ancestors end s at = absurd (let within = at.1 in omega (arith, within))
  condition_placed ancestors (node r below after) s at = by (is_condition language r) refl at
      (λ later. let found = condition_placed ancestors after s later in
      (found.0, behind_first r below after ancestors (placed_at s found.0 ancestors) found.1, found.2))
    where
      by : (b : Bool) → is_condition language r ≡ b
          → Contains (cond b (r ∷ filter (is_condition language) (row after)) (filter (is_condition language) (row after))) s
          → (Contains (conditions_in language after) s → (inner : Forest Source) × Contains (placed ancestors (node r below after)) (placed_at s inner ancestors) × (is_condition language s ≡ true))
          → (inner : Forest Source) × Contains (placed ancestors (node r below after)) (placed_at s inner ancestors) × (is_condition language s ≡ true)
      by true is (zero, within, same) later = subst
          (λ (t : Source). (inner : Forest Source) × Contains (placed ancestors (node r below after)) (placed_at t inner ancestors) × (is_condition language t ≡ true))
          same (below, first_there r below after ancestors, is)
      by true is (suc k, within, same) later = later (k, omega (arith, within), same)
      by false is inside later = later inside
