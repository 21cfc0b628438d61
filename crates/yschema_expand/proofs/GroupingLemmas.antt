-- The row of a grouping is that of its statement; other statements have none.
use Rattle.std.proofs.Common.{◌≡◌, ℕ, ◌+◌, ◌<◌, Bool, true, false, cond, List, [], ◌∷◌, take, drop, Option, Some, None, refl, sym, ap, ◌∙◌, arith}
use Rattle.std.specs.Prelude.{find, ◌==◌, slice_get, option_map, option_and_then}
use Rattle.std.specs.List.{filter_map, cons_option}
use Rattle.std.specs.Option.{option_map_or}
use Rattle.std.proofs.lemmas.Bool.Decides.{Decides-eqb}
use Rattle.yspec.specs.Forest.{Forest, end}
use Rattle.yspec.specs.linking.Keyword.{grouping_word}
use Rattle.yspec.specs.linking.Source.{Source, is_source_of}
use Rattle.yspec.specs.linking.Scopes.{Placed, statements_of, statement_at}
use Rattle.yspec.specs.linking.Parts.{Part}
use Rattle.yspec.specs.linking.Expansion.{Grouping, grouping_at, groupings_of, laid, row_in}
use Rattle.yspec_wide.specs.NodeCounts.{GroupingRow, grouping_row_at}
use Rattle.yschema_expand.specs.Counting.{grouping_row}
use Rattle.ybase_preorder.specs.Layout.{IsLaidOut, numbered_by, forest_of}
use Rattle.ybase_preorder.specs.declared.slot.Slot.{Slot}
use Rattle.ylink_grammar.specs.SourceView.{source_view}
use Rattle.ylink_grammar.specs.declared.source.Source as held
use Rattle.ybase_preorder.proofs.NumberLemmas.{AreFrom}
use Rattle.ylink_names.proofs.PlacedLemmas.{number_of, are_from}
use Rattle.ylink_names.proofs.BelowLemmas.{source_at, below_found}

-- what is made of each grouping among some statements is found by the grouping's number
module _ (Row : Type 0) (number : Row → ℕ) (make : Placed → Row) (numbers : (p : Placed) → number (make p) ≡ p.source.number) where
  abbrev made : Placed → Option Row
  made p = cond (is_source_of grouping_word p.source) (Some (make p)) None

  abbrev found : List Placed → ℕ → Option Row
  found ps n = find (λ r. number r == n) (filter_map made ps)

  later_none : (k : ℕ) (ps : List Placed) → AreFrom number_of k ps → (n : ℕ) → n < k → found ps n ≡ None
  later_none k [] are n less = refl
  later_none k (p ∷ ps) are n less = by (is_source_of grouping_word p.source) (later_none (k + 1) ps are.1 n (omega (arith, less)))
    where
      differs : (b : Bool) → (p.source.number == n) ≡ b → b ≡ false
      differs false e = refl
      differs true e = absurd (let same = (Decides-eqb p.source.number n).0 e in let own = are.0 in omega (arith, same, own, less))

      by : (b : Bool) → found ps n ≡ None → find (λ r. number r == n) (cons_option (cond b (Some (make p)) None) (filter_map made ps)) ≡ None
      by true rest = ap (λ x. cond x (Some (make p)) (found ps n)) (ap (λ i. i == n) (numbers p) ∙ differs (p.source.number == n) refl) ∙ rest
      by false rest = rest

  find_grouping : (k : ℕ) (ps : List Placed) → AreFrom number_of k ps → (n : ℕ)
      → found ps n ≡ option_and_then made (find (λ (p : Placed). p.source.number == n) ps)
  find_grouping k [] are n = refl
  find_grouping k (p ∷ ps) are n = by (p.source.number == n) refl (is_source_of grouping_word p.source) refl (find_grouping (k + 1) ps are.1 n)
    where
      own : Row
      own = make p

      rest : Option Row
      rest = found ps n

      by : (x : Bool) → (p.source.number == n) ≡ x → (b : Bool) → is_source_of grouping_word p.source ≡ b
          → rest ≡ option_and_then made (find (λ (q : Placed). q.source.number == n) ps)
          → find (λ r. number r == n) (cons_option (cond b (Some own) None) (filter_map made ps))
          ≡ option_and_then made (cond x (Some p) (find (λ (q : Placed). q.source.number == n) ps))
      by true here true is later = ap (λ y. cond y (Some own) rest) (ap (λ i. i == n) (numbers p) ∙ here) ∙ sym (ap (λ y. cond y (Some own) None) is)
      by true here false is later =
          let same = (Decides-eqb p.source.number n).0 here in let first = are.0 in
          later_none (k + 1) ps are.1 n (omega (arith, same, first)) ∙ sym (ap (λ y. cond y (Some own) None) is)
      by false here true is later = ap (λ y. cond y (Some own) rest) (ap (λ i. i == n) (numbers p) ∙ here) ∙ later
      by false here false is later = later

pub laid_end : laid end ≡ end
unfolding laid
laid_end = refl

-- the row of the statement of a number, where it is a grouping
abbrev pub row_if : Placed → Forest Part
row_if p = cond (is_source_of grouping_word p.source) (laid p.below) end

abbrev laid_from : Placed → Grouping
laid_from p = record { number = p.source.number; row = laid p.below }

pub row_at : (f : Forest held.Source) (n : ℕ)
    → row_in (groupings_of (numbered_by source_view 0 f)) n ≡ option_map_or row_if (statement_at (numbered_by source_view 0 f) n) end
row_at f n =
    let set = numbered_by source_view 0 f in
    ap (λ o. option_map_or (λ (g : Grouping). g.row) o end) (find_grouping Grouping (λ (g : Grouping). g.number) laid_from (λ p. refl) 0 (statements_of set) (are_from [] 0 f) n) ∙ by (statement_at set n)
  where
    of_one : (p : Placed) (b : Bool) → option_map_or (λ (g : Grouping). g.row) (cond b (Some (record { number = p.source.number; row = laid p.below })) None) end
        ≡ cond b (laid p.below) end
    of_one p true = refl
    of_one p false = refl

    by : (o : Option Placed) → option_map_or (λ (g : Grouping). g.row) (option_and_then grouping_at o) end ≡ option_map_or row_if o end
    by None = refl
    by (Some p) = of_one p (is_source_of grouping_word p.source)

-- and as it is stated
abbrev pub stated_if : Placed → Forest Source
stated_if p = cond (is_source_of grouping_word p.source) p.below end

abbrev stated_from : Placed → GroupingRow
stated_from p = record { number = p.source.number; row = p.below }

pub stated_at : (f : Forest held.Source) (n : ℕ)
    → grouping_row (numbered_by source_view 0 f) n ≡ option_map_or stated_if (statement_at (numbered_by source_view 0 f) n) end
stated_at f n =
    let set = numbered_by source_view 0 f in
    ap (λ o. option_map_or (λ (g : GroupingRow). g.row) o end) (find_grouping GroupingRow (λ (g : GroupingRow). g.number) stated_from (λ p. refl) 0 (statements_of set) (are_from [] 0 f) n) ∙ by (statement_at set n)
  where
    of_one : (p : Placed) (b : Bool) → option_map_or (λ (g : GroupingRow). g.row) (cond b (Some (stated_from p)) None) end ≡ cond b p.below end
    of_one p true = refl
    of_one p false = refl

    by : (o : Option Placed) → option_map_or (λ (g : GroupingRow). g.row) (option_and_then grouping_row_at o) end ≡ option_map_or stated_if o end
    by None = refl
    by (Some p) = of_one p (is_source_of grouping_word p.source)

laid_if : (b : Bool) (g : Forest Source) → cond b (laid g) end ≡ laid (cond b g end)
laid_if true g = refl
laid_if false g = sym laid_end

-- one is the other laid out
pub row_laid : (f : Forest held.Source) (n : ℕ)
    → row_in (groupings_of (numbered_by source_view 0 f)) n ≡ laid (grouping_row (numbered_by source_view 0 f) n)
row_laid f n = row_at f n ∙ (by (statement_at (numbered_by source_view 0 f) n) ∙ sym (ap laid (stated_at f n)))
  where
    by : (o : Option Placed) → option_map_or row_if o end ≡ laid (option_map_or stated_if o end)
    by None = sym laid_end
    by (Some p) = laid_if (is_source_of grouping_word p.source) p.below

-- ---- as it lies in the table

-- where there is a statement
pub stated_there : (rows : List (Slot held.Source)) (n : ℕ) (r : Slot held.Source) (b : Forest Source) (x : Bool) → IsLaidOut rows → slice_get rows n ≡ Some r
    → x ≡ is_source_of grouping_word (source_view n r.label)
    → ((s : Slot held.Source) → slice_get rows n ≡ Some s → b ≡ numbered_by source_view (n + 1) (forest_of (take s.below (drop (n + 1) rows))))
    → (slice_get rows n ≡ None → b ≡ end)
    → cond x b end ≡ grouping_row (numbered_by source_view 0 (forest_of rows)) n
stated_there rows n r b x laid_out at is some none =
    sym (stated_at (forest_of rows) n ∙ by (statement_at (numbered_by source_view 0 (forest_of rows)) n)
    (ap (option_map (λ (s : Slot held.Source). source_view n s.label)) (sym at) ∙ source_at rows n)
    (below_found rows n b laid_out some none))
  where
    by : (o : Option Placed) → Some (source_view n r.label) ≡ option_map (λ (p : Placed). p.source) o
        → b ≡ option_map_or (λ (p : Placed). p.below) o end → option_map_or stated_if o end ≡ cond x b end
    by None there below = absurd cc
    by (Some p) there below =
        let same : source_view n r.label ≡ p.source = cc in
        let here : x ≡ is_source_of grouping_word p.source = is ∙ ap (is_source_of grouping_word) same in
        ap (λ y. cond y p.below end) (sym here) ∙ ap (λ g. cond x g end) (sym below)

pub row_there : (rows : List (Slot held.Source)) (n : ℕ) (r : Slot held.Source) (b : Forest Source) (x : Bool) → IsLaidOut rows → slice_get rows n ≡ Some r
    → x ≡ is_source_of grouping_word (source_view n r.label)
    → ((s : Slot held.Source) → slice_get rows n ≡ Some s → b ≡ numbered_by source_view (n + 1) (forest_of (take s.below (drop (n + 1) rows))))
    → (slice_get rows n ≡ None → b ≡ end)
    → cond x (laid b) end ≡ row_in (groupings_of (numbered_by source_view 0 (forest_of rows))) n
row_there rows n r b x laid_out at is some none =
    laid_if x b ∙ (ap laid (stated_there rows n r b x laid_out at is some none) ∙ sym (row_laid (forest_of rows) n))

-- where there is none
pub stated_nowhere : (rows : List (Slot held.Source)) (n : ℕ) → slice_get rows n ≡ None
    → end ≡ grouping_row (numbered_by source_view 0 (forest_of rows)) n
stated_nowhere rows n at =
    sym (stated_at (forest_of rows) n ∙ by (statement_at (numbered_by source_view 0 (forest_of rows)) n)
    (ap (option_map (λ (s : Slot held.Source). source_view n s.label)) (sym at) ∙ source_at rows n))
  where
    by : (o : Option Placed) → None ≡ option_map (λ (p : Placed). p.source) o → option_map_or stated_if o end ≡ end
    by None there = refl
    by (Some p) there = absurd cc

pub row_nowhere : (rows : List (Slot held.Source)) (n : ℕ) → slice_get rows n ≡ None
    → end ≡ row_in (groupings_of (numbered_by source_view 0 (forest_of rows))) n
row_nowhere rows n at = sym laid_end ∙ (ap laid (stated_nowhere rows n at) ∙ sym (row_laid (forest_of rows) n))

-- and where it is no grouping
pub stated_other : (rows : List (Slot held.Source)) (n : ℕ) (r : Slot held.Source) → slice_get rows n ≡ Some r
    → is_source_of grouping_word (source_view n r.label) ≡ false → end ≡ grouping_row (numbered_by source_view 0 (forest_of rows)) n
stated_other rows n r at other =
    sym (stated_at (forest_of rows) n ∙ by (statement_at (numbered_by source_view 0 (forest_of rows)) n)
    (ap (option_map (λ (s : Slot held.Source). source_view n s.label)) (sym at) ∙ source_at rows n))
  where
    by : (o : Option Placed) → Some (source_view n r.label) ≡ option_map (λ (p : Placed). p.source) o → option_map_or stated_if o end ≡ end
    by None there = refl
    by (Some p) there =
        let same : source_view n r.label ≡ p.source = cc in
        ap (λ b. cond b p.below end) (sym (ap (is_source_of grouping_word) same) ∙ other)

pub row_other : (rows : List (Slot held.Source)) (n : ℕ) (r : Slot held.Source) → slice_get rows n ≡ Some r
    → is_source_of grouping_word (source_view n r.label) ≡ false → end ≡ row_in (groupings_of (numbered_by source_view 0 (forest_of rows))) n
row_other rows n r at other = sym laid_end ∙ (ap laid (stated_other rows n r at other) ∙ sym (row_laid (forest_of rows) n))
