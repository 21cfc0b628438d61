-- What the statements of a row ask, one after another, and all of them as the definition says.
use Rattle.std.proofs.Common.{◌≡◌, ℕ, ◌+◌, ◌<◌, ◌≤◌, Bool, true, false, cond, take, drop, get_or, length, List, [], ◌∷◌, Option, Some, None, option_map, refl, sym, ap, ap₂, ◌∙◌}
use Rattle.std.specs.Prelude.{◌&&◌, filter, slice_get}
use Rattle.std.specs.List.{Contains, list_all}
use Rattle.std.specs.Option.{option_map_or}
use Rattle.std.proofs.lemmas.List.{at_drop_more, at_drop_all}
use Rattle.yspec.specs.Forest.{Forest, end, node, row}
use Rattle.yspec.specs.linking.Scopes.{Placed, placed, statements_of, statement_at}
use Rattle.yspec.specs.linking.Source.{Source}
use Rattle.yspec_wide.specs.Language.{Language}
use Rattle.yspec_wide.specs.Features.{condition_holds, all_hold}
use Rattle.yspec_wide.specs.Sources.{is_condition}
use Rattle.ybase_preorder.specs.declared.slot.Slot.{Slot}
use Rattle.ybase_preorder.specs.Layout.{numbered_by, forest_of, IsLaidOut}
use Rattle.ylink_grammar.specs.declared.source.Source as held
use Rattle.ylink_grammar.specs.SourceView.{source_view}
use Rattle.ylink_names.specs.ScopeView.{placed_at}
use Rattle.ylink_names.proofs.BelowLemmas.{row_below, source_at}
use Rattle.ylink_names.proofs.PlacedLemmas.{below_them}
use Rattle.ylink_standing.specs.ConditionView.{holds_at, all_asked}
use Rattle.ylink_standing.specs.StandingView.{told, AreAsked}
use Rattle.ylink_standing.specs.declared.condition.Condition.{Condition}
use Rattle.ylink_standing.proofs.PlaceLemmas.{first_there, behind_first}

module _ (asked : List (Option Condition)) (on : ℕ → Bool) where
  -- ---- one statement after another

  pub row_fails : (before below after : Forest Source) (s : Source) (whole : Bool) → before ≡ node s below after → holds_at asked on s.number ≡ false
      → all_asked asked on before ≡ whole → false ≡ whole
  row_fails before below after s whole first fails so_far =
      sym (ap (all_asked asked on) first ∙ ap (λ b. b && all_asked asked on after) fails) ∙ so_far

  pub row_goes_on : (before below after : Forest Source) (s : Source) (whole : Bool) → before ≡ node s below after → holds_at asked on s.number ≡ true
      → all_asked asked on before ≡ whole → all_asked asked on after ≡ whole
  row_goes_on before below after s whole first holds so_far =
      sym (ap (all_asked asked on) first ∙ ap (λ b. b && all_asked asked on after) holds) ∙ so_far

  pub row_ended : (before : Forest Source) (whole : Bool) → before ≡ end → all_asked asked on before ≡ whole → true ≡ whole
  row_ended before whole ended so_far = sym (ap (all_asked asked on) ended) ∙ so_far

  -- ---- all of them

  module _ (language : Language) (modules : Forest Source) where
    abbrev Says : Source → Type 0
    Says s = holds_at asked on s.number ≡ cond (is_condition language s) (condition_holds language modules (told on) s) true

    rows_say : (ancestors : List (Source × Forest Source)) (f : Forest Source) → ((p : Placed) → Contains (placed ancestors f) p → Says p.source)
        → all_asked asked on f ≡ all_hold language modules (told on) f
    rows_say ancestors end says = refl
    rows_say ancestors (node s below after) says =
        ap₂ (λ a b. a && b) (says (placed_at s below ancestors) (first_there s below after ancestors))
        (rows_say ancestors after (λ p at. says p (behind_first s below after ancestors p at)))
        ∙ by (is_condition language s)
      where
        by : (b : Bool) → (cond b (condition_holds language modules (told on) s) true && list_all (condition_holds language modules (told on)) (filter (is_condition language) (row after)))
            ≡ list_all (condition_holds language modules (told on)) (cond b (s ∷ filter (is_condition language) (row after)) (filter (is_condition language) (row after)))
        by true = refl
        by false = refl

    -- of a row below a statement of the set
    pub row_says : AreAsked asked language modules → (p : Placed) → Contains (statements_of modules) p
        → all_asked asked on p.below ≡ all_hold language modules (told on) p.below
    row_says are p at = rows_say ((p.source, p.below) ∷ p.ancestors) p.below (λ q inside. are q (below_them [] modules p q at inside) on)

-- ---- the row of a number

-- as it lies in the table
pub row_there : (rows : List (Slot held.Source)) (n : ℕ) (r : Slot held.Source) (b : Forest Source) → IsLaidOut rows → slice_get rows n ≡ Some r
    → ((x : Slot held.Source) → slice_get rows n ≡ Some x → b ≡ numbered_by source_view (n + 1) (forest_of (take x.below (drop (n + 1) rows))))
    → Some b ≡ option_map (λ (p : Placed). p.below) (statement_at (numbered_by source_view 0 (forest_of rows)) n)
row_there rows n r b laid_out at is = ap (λ (f : Forest Source). Some f) (is r at) ∙ sym (row_below rows n r laid_out at)

pub row_nowhere : (rows : List (Slot held.Source)) (n : ℕ) → slice_get rows n ≡ None
    → None ≡ option_map (λ (p : Placed). p.below) (statement_at (numbered_by source_view 0 (forest_of rows)) n)
row_nowhere rows n at = by (statement_at (numbered_by source_view 0 (forest_of rows)) n)
    (ap (option_map (λ (r : Slot held.Source). source_view n r.label)) (sym at) ∙ source_at rows n)
  where
    by : (o : Option Placed) → None ≡ option_map (λ (p : Placed). p.source) o → None ≡ option_map (λ (p : Placed). p.below) o
    by None there = refl
    by (Some p) there = absurd cc

-- and what is said of it
pub told_by_row : (o : Option Placed) (below : Forest Source) (says : Forest Source → Bool) (b : Bool) → Some below ≡ option_map (λ (p : Placed). p.below) o
    → b ≡ says below → b ≡ option_map_or (λ (p : Placed). says p.below) o false
told_by_row None below says b there is = absurd cc
told_by_row (Some p) below says b there is = let same : below ≡ p.below = cc in is ∙ ap says same

pub told_by_none : (o : Option Placed) (says : Forest Source → Bool) → None ≡ option_map (λ (p : Placed). p.below) o
    → false ≡ option_map_or (λ (p : Placed). says p.below) o false
told_by_none None says there = refl
told_by_none (Some p) says there = absurd cc

-- ---- several rows, one after another

module _ {A : Type 0} (test : A → Bool) (xs : List A) where
  pub one_fails : (i : ℕ) (x : A) (whole : Bool) → i < length xs → x ≡ get_or xs i x → test x ≡ false → list_all test (drop i xs) ≡ whole → false ≡ whole
  one_fails i x whole within is fails so_far =
      sym (at_drop_more (list_all test) xs i x within ∙ ap (λ b. b && list_all test (drop (i + 1) xs)) (ap test (sym is) ∙ fails)) ∙ so_far

  pub one_passes : (i : ℕ) (x : A) (whole : Bool) → i < length xs → x ≡ get_or xs i x → test x ≡ true → list_all test (drop i xs) ≡ whole
      → list_all test (drop (i + 1) xs) ≡ whole
  one_passes i x whole within is passes so_far =
      sym (at_drop_more (list_all test) xs i x within ∙ ap (λ b. b && list_all test (drop (i + 1) xs)) (ap test (sym is) ∙ passes)) ∙ so_far

  pub all_passed : (i : ℕ) (whole : Bool) → length xs ≤ i → list_all test (drop i xs) ≡ whole → true ≡ whole
  all_passed i whole past so_far = sym (at_drop_all (list_all test) xs i past) ∙ so_far
