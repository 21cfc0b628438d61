-- The least of what the statements of a set break, by a loop over the rows of its table.
use Rattle.std.proofs.Common.{◌≡◌, ℕ, ◌+◌, ◌<◌, ◌≤◌, List, length, get_or, drop, Option, ap, ◌∙◌, subst}
use Rattle.std.specs.List.{flat_map}
use Rattle.yspec.specs.Forest.{preorder}
use Rattle.yspec.specs.linking.Source.{Source}
use Rattle.yspec.specs.schema.Breaks.{Break, least_from}
use Rattle.ybase_preorder.specs.Layout.{numbered_by, forest_of}
use Rattle.ybase_preorder.specs.declared.slot.Slot.{Slot}
use Rattle.ylink_grammar.specs.declared.source.Source as held
use Rattle.ylink_grammar.specs.SourceView.{source_view}
use Rattle.ylink_grammar.proofs.BreakLemmas.{broken_from, next_row, all_rows, in_preorder}

module _ (breaks : Source → List Break) (items rows : List (Slot held.Source)) (same : items ≡ rows) where
  pub next_told : (i : ℕ) (r : Slot held.Source) (told result whole : Option Break) → i < length items → r ≡ get_or items i r
      → result ≡ least_from told (breaks (source_view i r.label))
      → least_from told (broken_from breaks i (drop i rows)) ≡ whole
      → least_from result (broken_from breaks (i + 1) (drop (i + 1) rows)) ≡ whole
  next_told i r told result whole within is judged so_far =
      next_row breaks rows i r told result whole (subst (λ l. i < length l) same within) (is ∙ ap (λ xs. get_or xs i r) same) judged so_far

  pub all_told : (i : ℕ) (told so_far : Option Break) → length items ≤ i
      → least_from told (broken_from breaks i (drop i rows)) ≡ least_from so_far (broken_from breaks 0 rows)
      → told ≡ least_from so_far (flat_map breaks (preorder (numbered_by source_view 0 (forest_of rows))))
  all_told i told so_far ended made =
      all_rows breaks rows i told _ (subst (λ l. length l ≤ i) same ended) made ∙ ap (least_from so_far) (in_preorder breaks rows)
