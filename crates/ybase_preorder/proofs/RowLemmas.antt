-- Rows in preorder as the forest that they are.
use Rattle.std.proofs.Common.{◌≡◌, ℕ, zero, suc, ◌+◌, ◌≤◌, min, List, [], ◌∷◌, length, take, drop, Option, Some, None, refl, sym, ap, ap₂, ◌∙◌, subst, arith, length-take, length-drop}
use Rattle.std.proofs.lemmas.List.{take_min, drop_min}
use Rattle.yspec.specs.Forest.{Forest, node, end, size, levels}
use Rattle.ybase_preorder.specs.declared.slot.Slot.{Slot}
use Rattle.ybase_preorder.specs.declared.siblings.Node.{Node}
use Rattle.ybase_preorder.specs.declared.siblings.Siblings.{Siblings}
use Rattle.ybase_preorder.specs.Layout.{forest_within, forest_of, numbered_by}
use Rattle.ybase_preorder.specs.View.{TakesFirst, row_by, label_by, row_view, below_of}

module _ {L : Type 0} where
  -- any bound on the number of slots will do
  pub forest_within-enough : (n m : ℕ) (slots : List (Slot L)) → length slots ≤ n → length slots ≤ m → forest_within n slots ≡ forest_within m slots
  unfolding forest_within
  forest_within-enough zero zero [] h g = refl
  forest_within-enough zero (suc m) [] h g = refl
  forest_within-enough (suc n) zero [] h g = refl
  forest_within-enough (suc n) (suc m) [] h g = refl
  forest_within-enough zero m (r ∷ slots) h g = absurd (omega arith)
  forest_within-enough (suc n) zero (r ∷ slots) h g = absurd (omega arith)
  forest_within-enough (suc n) (suc m) (r ∷ slots) h g = ap₂ (node r.label)
      (forest_within-enough n m (take r.below slots) (omega (arith, length-take r.below slots)) (omega (arith, length-take r.below slots)))
      (forest_within-enough n m (drop r.below slots) (omega (arith, length-drop r.below slots)) (omega (arith, length-drop r.below slots)))

  pub forest_of-cons : (r : Slot L) (slots : List (Slot L))
      → forest_of (r ∷ slots) ≡ node r.label (forest_of (take r.below slots)) (forest_of (drop r.below slots))
  unfolding forest_within
  forest_of-cons r slots = ap₂ (node r.label)
      (forest_within-enough (length slots) (length (take r.below slots)) (take r.below slots) (omega (arith, length-take r.below slots)) (omega arith))
      (forest_within-enough (length slots) (length (drop r.below slots)) (drop r.below slots) (omega (arith, length-drop r.below slots)) (omega arith))

  -- each slot is one node
  sized_within : (n : ℕ) (slots : List (Slot L)) → length slots ≤ n → size (forest_of slots) ≡ length slots
  unfolding forest_within
  sized_within n [] h = refl
  sized_within zero (r ∷ slots) h = absurd (omega arith)
  sized_within (suc n) (r ∷ slots) h =
      let under = sized_within n (take r.below slots) (omega (arith, length-take r.below slots)) in
      let behind = sized_within n (drop r.below slots) (omega (arith, length-drop r.below slots)) in
      ap size (forest_of-cons r slots) ∙ omega (arith, under, behind, length-take r.below slots, length-drop r.below slots)

  pub size_forest : (slots : List (Slot L)) → size (forest_of slots) ≡ length slots
  size_forest slots = sized_within (length slots) slots (omega arith)

  -- the first node of some slots, and how many of them are its own
  pub first_node : (b : ℕ) (all rest inner after : List (Slot L)) (r : Slot L) (below : Forest L)
      → all ≡ r ∷ rest → b ≡ min r.below (length rest) → inner ≡ take b rest → after ≡ drop b rest → below ≡ forest_of inner
      → forest_of all ≡ node r.label below (forest_of after)
  first_node b all rest inner after r below all_is b_is inner_is after_is below_is =
      let taken : inner ≡ take r.below rest = inner_is ∙ (ap (λ n. take n rest) b_is ∙ take_min r.below rest) in
      let dropped : after ≡ drop r.below rest = after_is ∙ (ap (λ n. drop n rest) b_is ∙ drop_min r.below rest) in
      ap forest_of all_is ∙ (forest_of-cons r rest
      ∙ ap₂ (node r.label) (sym (below_is ∙ ap forest_of taken)) (sym (ap forest_of dropped)))

  pub numbers_behind : (k b : ℕ) (rest inner : List (Slot L)) (r : Slot L) (below : Forest L)
      → b ≡ min r.below (length rest) → inner ≡ take b rest → below ≡ forest_of inner → k + 1 + b ≡ k + suc (size below)
  numbers_behind k b rest inner r below b_is inner_is below_is =
      let sized : size below ≡ length (take b rest) = ap size below_is ∙ (size_forest inner ∙ ap length inner_is) in
      omega (arith, sized, length-take b rest, b_is)

  -- no slot, no node
  pub no_node : (slots : List (Slot L)) → length slots ≡ 0 → forest_of slots ≡ end
  unfolding forest_within
  no_node [] h = refl
  no_node (r ∷ slots) h = absurd (omega arith)

  pub takes_none : (c : Siblings L) (given : Option (Node L)) → given ≡ None → length c.slots.now ≡ 0 → TakesFirst c given c
  takes_none c given is_none empty =
      let nothing = no_node c.slots.now empty in subst (λ g. TakesFirst c g c) (sym is_none) (nothing, nothing)

-- a step over a row with other labels
pub takes_by : {L M : Type 0} (see : ℕ → L → M) (before after : Siblings L) (c : Node L) → TakesFirst before (Some c) after
    → row_by see before ≡ node (label_by see c) (row_by see c.children) (row_by see after)
takes_by see before after c taken =
    let k = before.number in
    ap (numbered_by see k) taken.0
    ∙ (ap₂ (λ i j. node (see i c.label.now) (numbered_by see j (forest_of c.children.slots.now)) (numbered_by see (k + suc (size (below_of c))) (row_view after))) (sym taken.1) (sym taken.2)
    ∙ ap (λ m. node (label_by see c) (row_by see c.children) (numbered_by see m (row_view after))) (sym taken.3))

pub takes_none_by : {L M : Type 0} (see : ℕ → L → M) (before after : Siblings L) → TakesFirst before None after → (row_by see before ≡ end) × (row_by see after ≡ end)
takes_none_by see before after taken = (ap (numbered_by see before.number) taken.0, ap (numbered_by see after.number) taken.1)

-- there are no more levels than nodes
pub levels_size : {L : Type 0} (f : Forest L) → levels f ≤ size f
levels_size end = omega arith
levels_size (node l below after) = omega (arith, levels_size below, levels_size after)
