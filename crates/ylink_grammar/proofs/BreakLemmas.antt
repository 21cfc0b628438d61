-- The least of what each statement of a table breaks, one after another.
use Rattle.std.proofs.Common.{◌≡◌, ℕ, ◌+◌, ◌<◌, ◌≤◌, List, ◌++◌, length, get_or, drop, Option, sym, ap, ◌∙◌}
use Rattle.std.specs.List.{flat_map}
use Rattle.std.proofs.lemmas.List.{at_drop_more, at_drop_all}
use Rattle.yspec.specs.Forest.{preorder}
use Rattle.yspec.specs.linking.Source as spec
use Rattle.yspec.specs.schema.Breaks.{Break, least_from}
use Rattle.yspec.proofs.SchemaProofs.LeastLemmas.{least_of_both}
use Rattle.ybase_preorder.specs.Layout.{labels_by, numbered_by, forest_of}
use Rattle.ybase_preorder.specs.declared.slot.Slot.{Slot}
use Rattle.ybase_preorder.proofs.LabelLemmas.{preorder_by}
use Rattle.ylink_grammar.specs.declared.source.Source.{Source}
use Rattle.ylink_grammar.specs.SourceView.{source_view}

-- what statements break, from one of a number on
abbrev pub broken_from : (spec.Source → List Break) → ℕ → List (Slot Source) → List Break
broken_from breaks number rows = flat_map breaks (labels_by source_view number rows)

module _ (breaks : spec.Source → List Break) where
  row_at : (rows : List (Slot Source)) (i : ℕ) (r : Slot Source) → i < length rows → r ≡ get_or rows i r
      → broken_from breaks i (drop i rows) ≡ breaks (source_view i r.label) ++ broken_from breaks (i + 1) (drop (i + 1) rows)
  row_at rows i r within is =
      at_drop_more (broken_from breaks i) rows i r within
      ∙ ap (λ (x : Slot Source). breaks (source_view i x.label) ++ broken_from breaks (i + 1) (drop (i + 1) rows)) (sym is)

  pub next_row : (rows : List (Slot Source)) (i : ℕ) (r : Slot Source) (told result whole : Option Break)
      → i < length rows → r ≡ get_or rows i r
      → result ≡ least_from told (breaks (source_view i r.label))
      → least_from told (broken_from breaks i (drop i rows)) ≡ whole
      → least_from result (broken_from breaks (i + 1) (drop (i + 1) rows)) ≡ whole
  next_row rows i r told result whole within is judged so_far =
      let others = broken_from breaks (i + 1) (drop (i + 1) rows) in
      ap (λ t. least_from t others) judged ∙ sym (least_of_both told (breaks (source_view i r.label)) others)
      ∙ ap (least_from told) (sym (row_at rows i r within is)) ∙ so_far

  pub all_rows : (rows : List (Slot Source)) (i : ℕ) (told whole : Option Break) → length rows ≤ i
      → least_from told (broken_from breaks i (drop i rows)) ≡ whole → told ≡ whole
  all_rows rows i told whole ended so_far = sym (at_drop_all (λ left. least_from told (broken_from breaks i left)) rows i ended) ∙ so_far

  pub in_preorder : (rows : List (Slot Source)) → broken_from breaks 0 rows ≡ flat_map breaks (preorder (numbered_by source_view 0 (forest_of rows)))
  in_preorder rows = ap (flat_map breaks) (sym (preorder_by source_view rows))
