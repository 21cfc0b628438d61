-- Which values come where there were none, or go where none is left: those of instances that come or go, and defaults that are in
-- use in the row before or then alone.
use Rattle.std.proofs.Common.{◌≡◌, ℕ, ◌+◌, ◌≤◌, Bool, true, false, not, ◌||◌, eqb, List, [], ◌∷◌, Option, Some, None, refl, sym, ap, ◌∙◌, arith}
use Rattle.std.specs.Prelude.{◌==◌, nat_lt}
use Rattle.std.proofs.lemmas.Bool.{eqb-true, ltb-false}
use Rattle.yspec.specs.Forest.{node, join, weigh_nodes}
use Rattle.yspec.specs.types.Types.{Val}
use Rattle.yspec.specs.schema.Schema.{Schema, children_of, row_at}
use Rattle.yspec.specs.document.Document.{Stored, Tree}
use Rattle.yspec.specs.document.Instances.{times_at, times_below, times_in}
use Rattle.yspec_reach.specs.Referring.{Reference}
use Rattle.yspec_reach.specs.Shared.{times_inside}
use Rattle.ystore_tree.specs.Hanging.{Branches, stored_of, tree_of}
use Rattle.ystore_tree.specs.Ways.{Way, around}
use Rattle.ystore_tree.proofs.GrowLemmas.{tree_join}
use Rattle.ylive_retell.specs.Plans.{row_schema}
use Rattle.ylive_retell.specs.Reads.{is_moved}
use Rattle.ylive_retell.proofs.SumLemmas.{nodes_join}

moved_from : (part was now : ℕ) → (part ≡ 0 → was ≡ now → ⊥) → (nat_lt 0 part || not (eqb was now)) ≡ true
moved_from part was now so = by (nat_lt 0 part) (eqb was now) refl refl
  where
    by : (a b : Bool) → nat_lt 0 part ≡ a → eqb was now ≡ b → (a || not b) ≡ true
    by true b none e = refl
    by false false none e = refl
    by false true none e = absurd (so (let least = ltb-false 0 part none in omega (arith, least)) (eqb-true was now e))

module _ (schema : Schema) (number : ℕ) (v : Val) where
  -- what is in use in a row is an instance in the document
  used_along : (way : Way) (above : Option ℕ) (f : Branches) → times_below schema number v (row_at schema (row_schema above way)) (tree_of f)
      ≤ times_below schema number v (row_at schema above) (tree_of (around way f)) + weigh_nodes (times_at schema number v) (tree_of (around way f))
  used_along [] above f = omega arith
  used_along (frame ∷ way) above f =
      let w = times_at schema number v in
      let below = tree_of (around way f) in
      let inner = used_along way (Some frame.label.schema.0) f in
      let is_row = ap (weigh_nodes w) (tree_join frame.before (node frame.label (around way f) frame.after)) in
      let parts = nodes_join w (tree_of frame.before) (node (stored_of frame.label) below (tree_of frame.after)) in
      let here : times_below schema number v (children_of schema frame.label.schema.0) below ≤ w (stored_of frame.label) below = omega arith in
      omega (arith, inner, is_row, parts, here)

  pub used_in : (way : Way) (f : Branches) → times_below schema number v (row_at schema (row_schema None way)) (tree_of f) ≤ times_in schema (tree_of (around way f)) number v
  used_in way f = used_along way None f

  module _ (way : Way) (f loose g left : Branches) where
    abbrev used : Branches → ℕ
    used h = times_below schema number v (row_at schema (row_schema None way)) (tree_of h)

    pub comes_moved : (count defaults : ℕ) → count ≡ times_inside schema number v (tree_of loose) + defaults → defaults ≤ used g
        → times_in schema (tree_of (around way f)) number v ≡ 0 → 1 ≤ count → is_moved schema way f loose g left (number, v) ≡ true
    comes_moved count defaults is few none some =
        let before = used_in way f in
        moved_from (times_inside schema number v (tree_of left) + times_inside schema number v (tree_of loose)) (used f) (used g)
        (λ nothing same. omega (arith, is, few, none, some, before, nothing, same))

    pub goes_moved : (count defaults : ℕ) → count ≡ times_inside schema number v (tree_of left) + defaults → defaults ≤ used f
        → times_in schema (tree_of (around way g)) number v ≡ 0 → 1 ≤ count → is_moved schema way f loose g left (number, v) ≡ true
    goes_moved count defaults is few none some =
        let then = used_in way g in
        moved_from (times_inside schema number v (tree_of left) + times_inside schema number v (tree_of loose)) (used f) (used g)
        (λ nothing same. omega (arith, is, few, none, some, then, nothing, same))
