-- Rows that lie as a forest does are that forest.
use Rattle.std.proofs.Common.{◌≡◌, ℕ, zero, suc, ◌+◌, ◌≤◌, List, [], ◌∷◌, ◌++◌, length, take, drop, Option, Some, None, refl, sym, ap, ap₂, ◌∙◌, arith, length-append, add-zero}
use Rattle.std.proofs.lemmas.List.{take_at, drop_at}
use Rattle.yspec.specs.Forest.{Forest, node, end, size}
use Rattle.yspec.specs.schema.Schema.{SchemaNode}
use Rattle.yschema_model.specs.declared.children.Slot.{Slot}
use Rattle.yschema_model.specs.Layout.{node_view, place_of, places, laid, IsLaidOut}
use Rattle.yschema_model.specs.View.{forest_of}
use Rattle.yschema_model.proofs.RowLemmas.{forest_of-cons, no_node}

-- ---- lengths

pub length-laid : (k : ℕ) (slots : List Slot) → length (laid k slots) ≡ length slots
length-laid k [] = refl
length-laid k (r ∷ slots) = ap suc (length-laid (k + 1) slots)

pub length-places : (p : Option ℕ) (f : Forest SchemaNode) → length (places p f) ≡ size f
length-places p end = refl
length-places p (node l below after) = ap suc (length-append (places (Some l.number) below) (places p after)
    ∙ ap₂ (λ a b. a + b) (length-places (Some l.number) below) (length-places p after))

-- ---- parts of what is laid

pub laid-append : (k : ℕ) (xs ys : List Slot) → laid k (xs ++ ys) ≡ laid k xs ++ laid (k + length xs) ys
laid-append k [] ys = ap (λ n. laid n ys) (sym (add-zero k))
laid-append k (x ∷ xs) ys =
    let here : k + 1 + length xs ≡ k + suc (length xs) = omega arith in
    ap (λ ps. place_of k x ∷ ps) (laid-append (k + 1) xs ys ∙ ap (λ n. laid (k + 1) xs ++ laid n ys) here)

take-laid : (n k : ℕ) (slots : List Slot) → take n (laid k slots) ≡ laid k (take n slots)
take-laid zero k slots = refl
take-laid (suc n) k [] = refl
take-laid (suc n) k (r ∷ slots) = ap (λ ps. place_of k r ∷ ps) (take-laid n (k + 1) slots)

drop-laid : (n k : ℕ) (slots : List Slot) → drop n (laid k slots) ≡ laid (k + length (take n slots)) (drop n slots)
drop-laid zero k slots = ap (λ m. laid m slots) (sym (add-zero k))
drop-laid (suc n) k [] = refl
drop-laid (suc n) k (r ∷ slots) =
    let here : k + 1 + length (take n slots) ≡ k + suc (length (take n slots)) = omega arith in
    drop-laid n (k + 1) slots ∙ ap (λ m. laid m (drop n slots)) here

-- ---- the forest

cons_inj : {X : Type 0} (x y : X) (xs ys : List X) → x ∷ xs ≡ y ∷ ys → (x ≡ y) × (xs ≡ ys)
cons_inj x y xs ys e = (cc, cc)

-- the first slot is the node's, and those below it follow
pub laid_parts : (l : SchemaNode) (below after : Forest SchemaNode) (p : Option ℕ) (k : ℕ) (r : Slot) (slots : List Slot)
    → laid k (r ∷ slots) ≡ places p (node l below after)
    → (laid (k + 1) (take r.below slots) ≡ places (Some l.number) below)
    × (laid (k + 1 + length (take r.below slots)) (drop r.below slots) ≡ places p after)
    × (r.below ≤ length slots)
    × (node_view k r.node ≡ l)
laid_parts l below after p k r slots e =
    let parts = cons_inj (place_of k r) (record { parent = p; label = l; below = size below }) (laid (k + 1) slots) (places (Some l.number) below ++ places p after) e in
    let below_is : r.below ≡ length (places (Some l.number) below) = ap (λ x. x.below) parts.0 ∙ sym (length-places (Some l.number) below) in
    let count : length slots ≡ length (places (Some l.number) below) + length (places p after) = sym (length-laid (k + 1) slots) ∙ (ap length parts.1 ∙ length-append (places (Some l.number) below) (places p after)) in (
      sym (take-laid r.below (k + 1) slots) ∙ (ap (take r.below) parts.1 ∙ take_at (places (Some l.number) below) (places p after) r.below (sym below_is)),
      sym (drop-laid r.below (k + 1) slots) ∙ (ap (drop r.below) parts.1 ∙ drop_at (places (Some l.number) below) (places p after) r.below (sym below_is)),
      omega (arith, below_is, count),
      ap (λ x. x.label) parts.0,
    )

pub forest_of-laid : (f : Forest SchemaNode) (p : Option ℕ) (k : ℕ) (slots : List Slot) → laid k slots ≡ places p f → forest_of k slots ≡ f
forest_of-laid end p k [] e = no_node k [] refl
forest_of-laid end p k (r ∷ slots) e = absurd cc
forest_of-laid (node l below after) p k [] e = absurd cc
forest_of-laid (node l below after) p k (r ∷ slots) e =
    let parts = laid_parts l below after p k r slots e in
    forest_of-cons k r slots
    ∙ (ap (λ x. node x (forest_of (k + 1) (take r.below slots)) (forest_of (k + 1 + length (take r.below slots)) (drop r.below slots))) parts.3
    ∙ ap₂ (node l) (forest_of-laid below (Some l.number) (k + 1) (take r.below slots) parts.0)
    (forest_of-laid after p (k + 1 + length (take r.below slots)) (drop r.below slots) parts.1))

pub laid_as : (f : Forest SchemaNode) (slots : List Slot) → laid 0 slots ≡ places None f → IsLaidOut slots
laid_as f slots e = e ∙ ap (places None) (sym (forest_of-laid f None 0 slots e))

-- ---- one statement of a row, and the others

-- a slot laid behind others, and those below it behind it
pub laid_push : (slots : List Slot) (r : Slot) → laid 0 (slots ++ r ∷ []) ≡ laid 0 slots ++ place_of (length slots) r ∷ []
laid_push slots r = laid-append 0 slots (r ∷ []) ∙ ap (λ n. laid 0 slots ++ place_of n r ∷ []) (omega arith)
