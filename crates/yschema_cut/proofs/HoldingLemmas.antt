-- What is told of conditions by their numbers is what the definition says of the nodes of a set.
use Rattle.std.proofs.Common.{◌≡◌, ℕ, zero, suc, ◌+◌, ◌<◌, Bool, true, false, cond, not, ◌&&◌, ◌||◌, List, [], ◌∷◌, ◌++◌, append_assoc, length, map, drop, take, get_or, Option, Some, refl, sym, ap, ap₂, ◌∙◌, arith}
use Rattle.std.specs.Prelude.{filter, slice_get}
use Rattle.std.specs.List.{Contains, list_all}
use Rattle.std.proofs.lemmas.List.{map-append}
use Rattle.yspec.specs.Forest.{Forest, end, node, preorder, row}
use Rattle.yspec.specs.linking.Scopes.{Placed, placed, statements_of}
use Rattle.yspec.specs.linking.Source.{Source}
use Rattle.yspec.specs.linking.Parts.{Part}
use Rattle.yspec_wide.specs.Language.{Language}
use Rattle.yspec_wide.specs.Expansion.{augmented_in}
use Rattle.yspec_wide.specs.Features.{condition_holds, all_hold, stands}
use Rattle.yspec_wide.specs.Sources.{is_condition, is_operation, is_when}
use Rattle.yspec_wide.specs.Standing.{is_standing, left_with, standing, standing_by}
use Rattle.ybase_preorder.specs.Layout.{forest_of, numbered_by}
use Rattle.ybase_preorder.specs.declared.slot.Slot.{Slot}
use Rattle.ybase_preorder.proofs.NumberLemmas.{stands_there}
use Rattle.ybase_preorder.proofs.RowLemmas.{forest_of-cons, no_node, size_forest}
use Rattle.ylink_grammar.specs.SourceView.{source_view}
use Rattle.ylink_grammar.specs.declared.source.Source as held
use Rattle.ylink_names.proofs.NumberedLemmas.{length_placed}
use Rattle.ylink_names.proofs.PlacedLemmas.{are_from, number_of}
use Rattle.ylink_standing.specs.ConditionView.{all_asked, holds_at, is_in}
use Rattle.ylink_standing.specs.StandingView.{told, IsOf}
use Rattle.ylink_standing.specs.declared.condition.Condition.{Condition}
use Rattle.ylink_standing.specs.declared.standing.FeaturesOn.{FeaturesOn}
use Rattle.ylink_standing.proofs.OrderLemmas.{tells_standing}
use Rattle.ylink_standing.proofs.PlaceLemmas.{first_there, under_first, behind_first}
use Rattle.yschema_given.specs.Holding.{holds_in, kept_hold}
use Rattle.yschema_given.specs.Keeping.{are_kept_right, is_kept, is_kept_right}
use Rattle.yschema_given.proofs.KeepingLemmas.{as_kept, kept_parts}
use Rattle.yschema_cut.specs.Cutting.{stands_by, told_from}
use Rattle.yschema_cut.proofs.OwnLemmas.{Each, EachOwn, own_augmented}

-- ---- one statement alone

dropped : {A : Type 0} (n : ℕ) → drop {A = A} n [] ≡ []
dropped zero = refl
dropped (suc n) = refl

pub one_asked : (asked : List (Option Condition)) (on : ℕ → Bool) (k : ℕ) (xs : List (Slot held.Source)) → length xs ≡ 1
    → all_asked asked on (numbered_by source_view k (forest_of xs)) ≡ holds_at asked on k
one_asked asked on k [] count = absurd (omega (arith, count))
one_asked asked on k (r ∷ []) count =
    ap (λ f. all_asked asked on (numbered_by source_view k f)) (forest_of-cons r [] ∙ ap (node r.label (forest_of (take r.below []))) (ap forest_of (dropped r.below) ∙ no_node {L = held.Source} [] refl))
    ∙ both (holds_at asked on k)
  where
    both : (b : Bool) → (b && true) ≡ b
    both true = refl
    both false = refl
one_asked asked on k (r ∷ s ∷ xs) count = absurd (omega (arith, count))

-- ---- all of a set

told_there : {A : Type 0} (tell : ℕ → Bool) (j k : ℕ) (xs : List A) → k < length xs
    → told_from tell j (drop k xs) ≡ tell j ∷ told_from tell (j + 1) (drop (suc k) xs)
told_there tell j k [] within = absurd (omega (arith, within))
told_there tell j zero (x ∷ xs) within = refl
told_there tell j (suc k) (x ∷ xs) within = told_there tell j k xs (omega (arith, within))

-- one more is told
pub told_more : {A : Type 0} (tell : ℕ → Bool) (k : ℕ) (xs : List A) (before after whole : List Bool) (v : Bool) → k < length xs → v ≡ tell k
    → after ≡ before ++ v ∷ [] → before ++ told_from tell k (drop k xs) ≡ whole → after ++ told_from tell (k + 1) (drop (k + 1) xs) ≡ whole
told_more tell k xs before after whole v within is more so_far =
    let next : k + 1 ≡ suc k = omega arith in
    ap (λ bs. bs ++ told_from tell (k + 1) (drop (k + 1) xs)) (more ∙ ap (λ b. before ++ b ∷ []) is)
    ∙ (append_assoc before (tell k ∷ []) (told_from tell (k + 1) (drop (k + 1) xs))
    ∙ (ap (λ n. before ++ (tell k ∷ told_from tell (k + 1) (drop n xs))) next
    ∙ (ap (λ bs. before ++ bs) (sym (told_there tell k k xs within)) ∙ so_far)))

get_told : {A : Type 0} (tell : ℕ → Bool) (k : ℕ) (xs : List A) (n : ℕ) → n < length xs → get_or (told_from tell k xs) n true ≡ tell (k + n)
get_told tell k [] n within = absurd (omega (arith, within))
get_told tell k (x ∷ xs) zero within = ap tell (omega arith)
get_told tell k (x ∷ xs) (suc n) within =
    let next : k + 1 + n ≡ k + suc n = omega arith in get_told tell (k + 1) xs n (omega (arith, within)) ∙ ap tell next

got_within : {A : Type 0} (xs : List A) (n : ℕ) (x : A) → slice_get xs n ≡ Some x → n < length xs
got_within [] n x at = absurd cc
got_within (y ∷ ys) zero x at = omega arith
got_within (y ∷ ys) (suc n) x at = let rest = got_within ys n x at in omega (arith, rest)

-- ---- what is told of each statement of a set

module _ (language : Language) (holding : List Bool) (says : Source → Bool) where
  -- it is told of each, and each is kept right
  abbrev pub Right : Source → Type 0
  Right s = (holds_in holding s.number ≡ says s) × (is_kept_right language s ≡ true)

  pub each_right : (ancestors : List (Source × Forest Source)) (f : Forest Source)
      → ((p : Placed) → Contains (placed ancestors f) p → holds_in holding p.source.number ≡ says p.source)
      → are_kept_right language f ≡ true → Each Right f
  each_right ancestors end told kept = tt
  each_right ancestors (node s below after) told kept =
      let parts = kept_parts language s below after kept in (
        (told (record { source = s; below = below; ancestors = ancestors }) (first_there s below after ancestors), parts.0),
        each_right ((s, below) ∷ ancestors) below (λ p at. told p (under_first s below after ancestors p at)) parts.1,
        each_right ancestors after (λ p at. told p (behind_first s below after ancestors p at)) parts.2,
      )

-- ---- what two say alike of all that nodes state

-- where something else is asked of their nodes besides
module _ (P : Source → Type 0) (free : Part → Bool) (first second : Forest Source → Bool) (same : (own : Forest Source) → Each P own → first own ≡ second own) where
  abbrev by_first : Part → Bool
  by_first p = free p && first p.own

  abbrev by_second : Part → Bool
  by_second p = free p && second p.own

  alike : (f : Forest Part) → EachOwn P f → standing_by by_first f ≡ standing_by by_second f
  unfolding standing_by
  alike end right = refl
  alike (node p below after) right =
      let here = ap (λ b. free p && b) (same p.own right.0) in
      let inside = alike below right.1 in
      let rest = alike after right.2 in
      ap₂ (λ b f. cond b (left_with p below f (standing_by by_first after)) (standing_by by_first after)) here inside
      ∙ ap (λ f. cond (by_second p) (left_with p below (standing_by by_second below) f) f) rest

  pub own_alike : (f : Forest Part) → EachOwn P f → map by_first (preorder f) ≡ map by_second (preorder f)
  own_alike end right = refl
  own_alike (node p below after) right =
      ap₂ (λ b bs. b ∷ bs) (ap (λ b. free p && b) (same p.own right.0))
      (map-append by_first (preorder below) (preorder after)
      ∙ (ap₂ (λ xs ys. xs ++ ys) (own_alike below right.1) (own_alike after right.2) ∙ sym (map-append by_second (preorder below) (preorder after))))

module _ (language : Language) (features : FeaturesOn) (slots : List (Slot held.Source)) (holding : List Bool) where
  abbrev modules : Forest Source
  modules = numbered_by source_view 0 (forest_of slots)

  abbrev on : ℕ → Bool
  on = is_in features.on.items

  abbrev says : Source → Bool
  says s = cond (is_condition language s) (condition_holds language modules (told on) s) true

  placed_within : (p : Placed) → Contains (statements_of modules) p → p.source.number < length slots
  placed_within p at =
      let found = got_within (statements_of modules) p.source.number p (stands_there number_of (statements_of modules) (are_from [] 0 (forest_of slots)) p at) in
      let count = length_placed source_view [] 0 (forest_of slots) in
      let sized = size_forest slots in
      omega (arith, found, count, sized)

  row_holds : (f : Forest Source) → Each (Right language holding says) f → kept_hold (holds_in holding) f ≡ all_hold language modules (told on) f
  row_holds end right = refl
  row_holds (node s below after) right = by (is_condition language s) refl right.0.0 (row_holds after right.2)
    where
      rest : Bool
      rest = list_all (condition_holds language modules (told on)) (filter (is_condition language) (row after))

      any : (b : Bool) → (b || true) ≡ true
      any true = refl
      any false = refl

      by : (c : Bool) → is_condition language s ≡ c → holds_in holding s.number ≡ cond c (condition_holds language modules (told on) s) true
          → kept_hold (holds_in holding) after ≡ rest
          → ((not (is_kept s) || holds_in holding s.number) && kept_hold (holds_in holding) after)
          ≡ list_all (condition_holds language modules (told on)) (cond c (s ∷ filter (is_condition language) (row after)) (filter (is_condition language) (row after)))
      by true is says others = ap (λ k. (not k || holds_in holding s.number) && kept_hold (holds_in holding) after) (as_kept language s right.0.1 (ap (λ b. b || is_when language s) is))
          ∙ ap₂ (λ a b. a && b) says others
      by false is says others = ap (λ h. (not (is_kept s) || h) && kept_hold (holds_in holding) after) says
          ∙ (ap (λ b. b && kept_hold (holds_in holding) after) (any (not (is_kept s))) ∙ others)

  all_right : holding ≡ told_from (holds_at features.conditions.items on) 0 slots → IsOf features language modules → are_kept_right language modules ≡ true
      → Each (Right language holding says) modules
  all_right holding_is is kept = each_right language holding says [] modules (λ p at. ap (λ bs. get_or bs p.source.number true) holding_is
      ∙ (get_told (holds_at features.conditions.items on) 0 slots p.source.number (placed_within p at)
      ∙ (ap (holds_at features.conditions.items on) (plain p.source.number) ∙ is.asked p at on))) kept
    where
      plain : (n : ℕ) → 0 + n ≡ n
      plain n = omega arith

  abbrev free : Part → Bool
  free p = not (is_operation language p.source)

  -- whether the parts of a set stand themselves
  pub own_standing : holding ≡ told_from (holds_at features.conditions.items on) 0 slots → IsOf features language modules → are_kept_right language modules ≡ true
      → map (stands_by language holding) (preorder (augmented_in language modules).0)
      ≡ map (is_standing language modules) (preorder (augmented_in language modules).0)
  own_standing holding_is is kept =
      own_alike (Right language holding says) free (kept_hold (holds_in holding)) (stands language modules)
      (λ own right. row_holds own right ∙ tells_standing language modules on is.tells own)
      (augmented_in language modules).0 (own_augmented (Right language holding says) language modules (all_right holding_is is kept))

  pub standing_same : holding ≡ told_from (holds_at features.conditions.items on) 0 slots → IsOf features language modules → are_kept_right language modules ≡ true
      → standing_by (stands_by language holding) (augmented_in language modules).0 ≡ standing language modules (augmented_in language modules).0
  standing_same holding_is is kept =
      alike (Right language holding says) free (kept_hold (holds_in holding)) (stands language modules)
      (λ own right. row_holds own right ∙ tells_standing language modules on is.tells own)
      (augmented_in language modules).0 (own_augmented (Right language holding says) language modules (all_right holding_is is kept))
