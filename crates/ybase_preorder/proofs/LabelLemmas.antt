-- The labels of slots, one after another.
use Rattle.std.proofs.Common.{◌≡◌, ℕ, zero, suc, ◌+◌, ◌≤◌, max, List, [], ◌∷◌, ◌++◌, length, take, drop, get_or, refl, sym, ap, ap₂, ◌∙◌, arith, length-take, length-drop, Some}
use Rattle.std.specs.Prelude.{slice_get, option_map}
use Rattle.std.proofs.lemmas.List.{take-append-drop, take_more}
use Rattle.yspec.specs.Forest.{Forest, node, end, size, levels, preorder}
use Rattle.ybase_preorder.specs.declared.slot.Slot.{Slot}
use Rattle.ybase_preorder.specs.Layout.{forest_of, numbered_by, labels_by}
use Rattle.ybase_preorder.proofs.RowLemmas.{forest_of-cons, no_node, size_forest}

module _ {L M : Type 0} (see : ℕ → L → M) where
  pub labels-append : (k : ℕ) (xs ys : List (Slot L)) → labels_by see k (xs ++ ys) ≡ labels_by see k xs ++ labels_by see (k + length xs) ys
  labels-append k [] ys = ap (λ n. labels_by see n ys) (omega arith)
  labels-append k (x ∷ xs) ys =
      let here : k + 1 + length xs ≡ k + suc (length xs) = omega arith in
      ap (λ rest. see k x.label ∷ rest) (labels-append (k + 1) xs ys ∙ ap (λ n. labels_by see (k + 1) xs ++ labels_by see n ys) here)

  pub length-labels : (k : ℕ) (slots : List (Slot L)) → length (labels_by see k slots) ≡ length slots
  length-labels k [] = refl
  length-labels k (r ∷ slots) = ap suc (length-labels (k + 1) slots)

  -- in preorder
  preorder_within : (n k : ℕ) (slots : List (Slot L)) → length slots ≤ n → preorder (numbered_by see k (forest_of slots)) ≡ labels_by see k slots
  preorder_within n k [] h = ap (λ f. preorder (numbered_by see k f)) (no_node {L = L} [] refl)
  preorder_within zero k (r ∷ slots) h = absurd (omega arith)
  preorder_within (suc n) k (r ∷ slots) h =
      let under = take r.below slots in
      let behind = drop r.below slots in
      let inner = preorder_within n (k + 1) under (omega (arith, length-take r.below slots)) in
      let rest = preorder_within n (k + suc (size (forest_of under))) behind (omega (arith, length-drop r.below slots)) in
      let past : k + suc (size (forest_of under)) ≡ k + 1 + length under = omega (arith, size_forest under) in
      ap (λ f. preorder (numbered_by see k f)) (forest_of-cons r slots)
      ∙ ap (λ rest. see k r.label ∷ rest)
      (ap₂ (λ a b. a ++ b) inner (rest ∙ ap (λ m. labels_by see m behind) past)
      ∙ (sym (labels-append (k + 1) under behind) ∙ ap (labels_by see (k + 1)) (take-append-drop r.below slots)))

  pub preorder_by : (slots : List (Slot L)) → preorder (numbered_by see 0 (forest_of slots)) ≡ labels_by see 0 slots
  preorder_by slots = preorder_within (length slots) 0 slots (omega arith)

  -- one slot more
  pub labels_more : (slots : List (Slot L)) (i : ℕ) (r : Slot L) → suc i ≤ length slots → r ≡ get_or slots i r
      → labels_by see 0 (take (i + 1) slots) ≡ labels_by see 0 (take i slots) ++ see i r.label ∷ []
  labels_more slots i r within is =
      let count : 0 + length (take i slots) ≡ i = omega (arith, length-take i slots) in
      ap (labels_by see 0) (take_more slots i r (omega arith) ∙ ap (λ x. take i slots ++ x ∷ []) (sym is))
      ∙ (labels-append 0 (take i slots) (r ∷ []) ∙ ap (λ n. labels_by see 0 (take i slots) ++ see n r.label ∷ []) count)

  pub label_at : (k : ℕ) (slots : List (Slot L)) (i : ℕ) → slice_get (labels_by see k slots) i ≡ option_map (λ r. see (k + i) r.label) (slice_get slots i)
  label_at k [] i = refl
  label_at k (r ∷ slots) zero = ap (λ n. Some (see n r.label)) (omega arith)
  label_at k (r ∷ slots) (suc i) =
      let here : k + 1 + i ≡ k + suc i = omega arith in
      label_at (k + 1) slots i ∙ ap (λ n. option_map (λ x. see n x.label) (slice_get slots i)) here

  -- other labels change no shape
  pub size-by : (k : ℕ) (f : Forest L) → size (numbered_by see k f) ≡ size f
  size-by k end = refl
  size-by k (node l below after) = ap₂ (λ a b. suc (a + b)) (size-by (k + 1) below) (size-by (k + suc (size below)) after)

  pub levels-by : (k : ℕ) (f : Forest L) → levels (numbered_by see k f) ≡ levels f
  levels-by k end = refl
  levels-by k (node l below after) = ap₂ (λ a b. max (suc a) b) (levels-by (k + 1) below) (levels-by (k + suc (size below)) after)
