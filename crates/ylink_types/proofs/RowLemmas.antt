-- The row below a typedef, as it lies in the table.
use Rattle.std.proofs.Common.{◌≡◌, ℕ, ◌+◌, Bool, true, false, cond, take, drop, List, Option, Some, None, option_map, refl, sym, ap, ◌∙◌}
use Rattle.std.specs.Prelude.{slice_get, option_and_then}
use Rattle.yspec.specs.Forest.{Forest}
use Rattle.yspec.specs.linking.DerivedTypes.{typedef_row}
use Rattle.yspec.specs.linking.Keyword.{typedef_word}
use Rattle.yspec.specs.linking.Scopes.{Placed, statement_at}
use Rattle.yspec.specs.linking.Source.{Source, is_source_of}
use Rattle.ybase_preorder.specs.declared.slot.Slot.{Slot}
use Rattle.ybase_preorder.specs.Layout.{numbered_by, forest_of, IsLaidOut}
use Rattle.ylink_grammar.specs.declared.source.Source as held
use Rattle.ylink_grammar.specs.SourceView.{source_view}
use Rattle.ylink_names.proofs.BelowLemmas.{row_below, source_at}

module _ (rows : List (Slot held.Source)) (n : ℕ) where
  abbrev modules : Forest Source
  modules = numbered_by source_view 0 (forest_of rows)

  abbrev below_typedef : Placed → Option (Forest Source)
  below_typedef p = cond (is_source_of typedef_word p.source) (Some p.below) None

  nothing : (o : Option Placed) → None ≡ option_map (λ (p : Placed). p.source) o → None ≡ option_and_then below_typedef o
  nothing None is = refl
  nothing (Some p) is = absurd cc

  pub row_nowhere : slice_get rows n ≡ None → None ≡ typedef_row modules n
  row_nowhere at = nothing (statement_at modules n) (ap (option_map (λ (r : Slot held.Source). source_view n r.label)) (sym at) ∙ source_at rows n)

  -- a statement that stands there
  module _ (r : Slot held.Source) (at : slice_get rows n ≡ Some r) where
    source_there : Some (source_view n r.label) ≡ option_map (λ (p : Placed). p.source) (statement_at modules n)
    source_there = ap (option_map (λ (x : Slot held.Source). source_view n x.label)) (sym at) ∙ source_at rows n

    other : (o : Option Placed) → Some (source_view n r.label) ≡ option_map (λ (p : Placed). p.source) o
        → is_source_of typedef_word (source_view n r.label) ≡ false → None ≡ option_and_then below_typedef o
    other None is is_not = refl
    other (Some p) is is_not =
        let same : source_view n r.label ≡ p.source = cc in
        sym (ap (λ b. cond b (Some p.below) None) (sym (ap (is_source_of typedef_word) same) ∙ is_not))

    pub row_of_other : is_source_of typedef_word (source_view n r.label) ≡ false → None ≡ typedef_row modules n
    row_of_other is_not = other (statement_at modules n) source_there is_not

    typedef : (o : Option Placed) (b : Forest Source) → Some (source_view n r.label) ≡ option_map (λ (p : Placed). p.source) o
        → Some b ≡ option_map (λ (p : Placed). p.below) o → is_source_of typedef_word (source_view n r.label) ≡ true
        → Some b ≡ option_and_then below_typedef o
    typedef None b is below is_one = absurd cc
    typedef (Some p) b is below is_one =
        let same : source_view n r.label ≡ p.source = cc in
        below ∙ sym (ap (λ c. cond c (Some p.below) None) (sym (ap (is_source_of typedef_word) same) ∙ is_one))

    pub row_of_typedef : (b : Forest Source) → IsLaidOut rows
        → ((x : Slot held.Source) → slice_get rows n ≡ Some x → b ≡ numbered_by source_view (n + 1) (forest_of (take x.below (drop (n + 1) rows))))
        → is_source_of typedef_word (source_view n r.label) ≡ true → Some b ≡ typedef_row modules n
    row_of_typedef b laid_out is is_one =
        typedef (statement_at modules n) b source_there
        (ap (λ (f : Forest Source). Some f) (is r at) ∙ sym (row_below rows n r laid_out at)) is_one
