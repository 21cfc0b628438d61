-- Parts as they lie in slots, whatever the numbers of these are.
use Rattle.std.proofs.Common.{◌≡◌, ℕ, zero, suc, ◌+◌, List, [], ◌∷◌, ◌++◌, length, take, drop, slice_set, Option, Some, None, refl, sym, ap, ◌∙◌, arith}
use Rattle.std.specs.Prelude.{option_map, slice_get}
use Rattle.yspec.specs.linking.Parts.{Part}
use Rattle.ybase_preorder.specs.Layout.{Place, laid, seen}
use Rattle.ybase_preorder.specs.declared.slot.Slot.{Slot}
use Rattle.yschema_expand.specs.declared.nodes.ExpandedNode.{ExpandedNode}
use Rattle.yschema_expand.specs.NodeView.{numbered_part}
use Rattle.yschema_expand.specs.TableView.{lying, lying_slot}

abbrev lies : ℕ → List (Slot ExpandedNode) → List (Place Part)
lies k slots = seen numbered_part k (laid slots)

lies_set : (k n : ℕ) (slots : List (Slot ExpandedNode)) (r : Slot ExpandedNode) → lies k (slice_set slots n r) ≡ slice_set (lies k slots) n (lying_slot r)
lies_set k n [] r = refl
lies_set k zero (x ∷ slots) r = refl
lies_set k (suc n) (x ∷ slots) r = ap (λ rest. lying_slot x ∷ rest) (lies_set (k + 1) n slots r)

lies_get : (k n : ℕ) (slots : List (Slot ExpandedNode)) → slice_get (lies k slots) n ≡ option_map lying_slot (slice_get slots n)
lies_get k n [] = refl
lies_get k zero (x ∷ slots) = refl
lies_get k (suc n) (x ∷ slots) = lies_get (k + 1) n slots

lies_anywhere : (k m : ℕ) (slots : List (Slot ExpandedNode)) → lies k slots ≡ lies m slots
lies_anywhere k m [] = refl
lies_anywhere k m (x ∷ slots) = ap (λ rest. lying_slot x ∷ rest) (lies_anywhere (k + 1) (m + 1) slots)

lies_append : (k : ℕ) (xs ys : List (Slot ExpandedNode)) → lies k (xs ++ ys) ≡ lies k xs ++ lies k ys
lies_append k [] ys = refl
lies_append k (x ∷ xs) ys = ap (λ rest. lying_slot x ∷ rest) (lies_append (k + 1) xs ys ∙ ap (λ ps. lies (k + 1) xs ++ ps) (lies_anywhere (k + 1) k ys))

pub lying_set : (n : ℕ) (slots : List (Slot ExpandedNode)) (r : Slot ExpandedNode) → lying (slice_set slots n r) ≡ slice_set (lying slots) n (lying_slot r)
lying_set n slots r = lies_set 0 n slots r

pub lying_get : (n : ℕ) (slots : List (Slot ExpandedNode)) → slice_get (lying slots) n ≡ option_map lying_slot (slice_get slots n)
lying_get n slots = lies_get 0 n slots

pub lying_append : (xs ys : List (Slot ExpandedNode)) → lying (xs ++ ys) ≡ lying xs ++ lying ys
lying_append xs ys = lies_append 0 xs ys

pub lying_below : (n : ℕ) (slots : List (Slot ExpandedNode)) → option_map (λ (r : Slot ExpandedNode). r.below) (slice_get slots n)
    ≡ option_map (λ (x : Place Part). x.below) (slice_get (lying slots) n)
lying_below n slots = by (slice_get slots n) ∙ sym (ap (option_map (λ (x : Place Part). x.below)) (lying_get n slots))
  where
    by : (o : Option (Slot ExpandedNode)) → option_map (λ (r : Slot ExpandedNode). r.below) o
        ≡ option_map (λ (x : Place Part). x.below) (option_map lying_slot o)
    by None = refl
    by (Some r) = refl

pub lying_count : (slots : List (Slot ExpandedNode)) → length (lying slots) ≡ length slots
lying_count slots = by 0 slots
  where
    by : (k : ℕ) (slots : List (Slot ExpandedNode)) → length (lies k slots) ≡ length slots
    by k [] = refl
    by k (x ∷ slots) = ap suc (by (k + 1) slots)

lies_apart : (k n : ℕ) (slots : List (Slot ExpandedNode)) (front back : List (Place Part)) → length front ≡ n → lies k slots ≡ front ++ back
    → (lies k (take n slots) ≡ front) × (lies k (drop n slots) ≡ back)
lies_apart k n slots [] back count is = let none : 0 ≡ n = count in
    (ap (λ m. lies k (take m slots)) (sym none), ap (λ m. lies k (drop m slots)) (sym none) ∙ is)
lies_apart k zero slots (p ∷ front) back count is = absurd (omega (arith, count))
lies_apart k (suc n) [] (p ∷ front) back count is = absurd cc
lies_apart k (suc n) (x ∷ slots) (p ∷ front) back count is =
    let first : lying_slot x ≡ p = cc in
    let rest : lies (k + 1) slots ≡ front ++ back = cc in
    let both = lies_apart (k + 1) n slots front back (omega (arith, count)) rest in
    (ap (λ q. q ∷ lies (k + 1) (take n slots)) first ∙ ap (λ ps. p ∷ ps) both.0, lies_anywhere k (k + 1) (drop n slots) ∙ both.1)

pub lying_apart : (n : ℕ) (slots : List (Slot ExpandedNode)) (front back : List (Place Part)) → length front ≡ n → lying slots ≡ front ++ back
    → (lying (take n slots) ≡ front) × (lying (drop n slots) ≡ back)
lying_apart n slots front back count is = lies_apart 0 n slots front back count is
