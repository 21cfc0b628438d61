-- Rows in preorder as the forest that they are.
use Rattle.std.proofs.Common.{◌≡◌, ℕ, zero, suc, ◌+◌, ◌≤◌, min, List, [], ◌∷◌, length, take, drop, Option, None, refl, sym, ap, ap₂, ◌∙◌, subst, arith, length-take, length-drop}
use Rattle.std.proofs.lemmas.List.{take_min, drop_min}
use Rattle.yspec.specs.Forest.{Forest, node, end, size}
use Rattle.yspec.specs.schema.Schema.{SchemaNode}
use Rattle.yschema_model.specs.declared.children.Slot.{Slot}
use Rattle.yschema_model.specs.declared.children.Child.{Child}
use Rattle.yschema_model.specs.declared.children.Children.{Children}
use Rattle.yschema_model.specs.View.{node_view, forest_within, forest_of, TakesFirst}

-- any bound on the number of slots will do
pub forest_within-enough : (n m k : ℕ) (slots : List Slot) → length slots ≤ n → length slots ≤ m → forest_within n k slots ≡ forest_within m k slots
unfolding forest_within
forest_within-enough zero zero k [] h g = refl
forest_within-enough zero (suc m) k [] h g = refl
forest_within-enough (suc n) zero k [] h g = refl
forest_within-enough (suc n) (suc m) k [] h g = refl
forest_within-enough zero m k (r ∷ slots) h g = absurd (omega arith)
forest_within-enough (suc n) zero k (r ∷ slots) h g = absurd (omega arith)
forest_within-enough (suc n) (suc m) k (r ∷ slots) h g = ap₂ (node (node_view k r.node))
    (forest_within-enough n m (k + 1) (take r.below slots) (omega (arith, length-take r.below slots)) (omega (arith, length-take r.below slots)))
    (forest_within-enough n m (k + 1 + length (take r.below slots)) (drop r.below slots) (omega (arith, length-drop r.below slots)) (omega (arith, length-drop r.below slots)))

pub forest_of-cons : (k : ℕ) (r : Slot) (slots : List Slot)
    → forest_of k (r ∷ slots) ≡ node (node_view k r.node) (forest_of (k + 1) (take r.below slots)) (forest_of (k + 1 + length (take r.below slots)) (drop r.below slots))
unfolding forest_within
forest_of-cons k r slots = ap₂ (node (node_view k r.node))
    (forest_within-enough (length slots) (length (take r.below slots)) (k + 1) (take r.below slots) (omega (arith, length-take r.below slots)) (omega arith))
    (forest_within-enough (length slots) (length (drop r.below slots)) (k + 1 + length (take r.below slots)) (drop r.below slots) (omega (arith, length-drop r.below slots)) (omega arith))

-- the first node of some slots, and how many of them are its own
pub first_node : (k b : ℕ) (all rest inner after : List Slot) (r : Slot) (below : Forest SchemaNode)
    → all ≡ r ∷ rest → b ≡ min r.below (length rest) → inner ≡ take b rest → after ≡ drop b rest → below ≡ forest_of (k + 1) inner
    → forest_of k all ≡ node (node_view k r.node) below (forest_of (k + 1 + b) after)
first_node k b all rest inner after r below all_is b_is inner_is after_is below_is =
    let taken : inner ≡ take r.below rest = inner_is ∙ (ap (λ n. take n rest) b_is ∙ take_min r.below rest) in
    let dropped : after ≡ drop r.below rest = after_is ∙ (ap (λ n. drop n rest) b_is ∙ drop_min r.below rest) in
    let counted : b ≡ length (take r.below rest) = b_is ∙ sym (length-take r.below rest) in
    ap (forest_of k) all_is ∙ (forest_of-cons k r rest
    ∙ (ap (λ f. node (node_view k r.node) f (forest_of (k + 1 + length (take r.below rest)) (drop r.below rest))) (sym (below_is ∙ ap (forest_of (k + 1)) taken))
    ∙ (ap (λ n. node (node_view k r.node) below (forest_of (k + 1 + n) (drop r.below rest))) (sym counted)
    ∙ ap (λ slots. node (node_view k r.node) below (forest_of (k + 1 + b) slots)) (sym dropped))))

-- no slot, no node
pub no_node : (k : ℕ) (slots : List Slot) → length slots ≡ 0 → forest_of k slots ≡ end
unfolding forest_within
no_node k [] h = refl
no_node k (r ∷ slots) h = absurd (omega arith)

pub takes_none : (c : Children) (given : Option Child) → given ≡ None → length c.slots.now ≡ 0 → TakesFirst c given c
takes_none c given is_none empty =
    let nothing = no_node c.number c.slots.now empty in subst (λ g. TakesFirst c g c) (sym is_none) (nothing, nothing)

-- the nodes after the first are fewer than all
pub fewer_after : {L : Type 0} (l : L) (below after before : Forest L) (k : ℕ) → before ≡ node l below after → size before ≤ k → size after ≤ k
fewer_after l below after before k is within = let same = ap size is in omega (arith, same, within)
