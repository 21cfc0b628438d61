-- The parts that lie in a table once one of them is changed, and the row that begins at a number.
use Rattle.std.proofs.Common.{◌≡◌, ℕ, zero, suc, ◌+◌, ◌≤◌, List, [], ◌∷◌, ◌++◌, length, drop, Option, Some, slice_set, refl, sym, ap, ◌∙◌, arith}
use Rattle.std.specs.Prelude.{slice_get}
use Rattle.yspec.specs.Forest.{Forest}
use Rattle.yspec.specs.linking.Parts.{Part}
use Rattle.ybase_preorder.specs.Layout.{Place, places, laid, seen, numbered_by, forest_of}
use Rattle.ybase_preorder.specs.declared.slot.Slot.{Slot}
use Rattle.ybase_preorder.proofs.LayoutLemmas.{forest_seen}
use Rattle.yschema_expand.specs.declared.nodes.ExpandedNode.{ExpandedNode}
use Rattle.yschema_expand.specs.NodeView.{numbered_part, part_view}
use Rattle.yschema_expand.specs.TableView.{changed_place}

pub changed_slot : (k n : ℕ) (slots : List (Slot ExpandedNode)) (r : Slot ExpandedNode) (l : ExpandedNode) (change : Part → Part)
    → slice_get slots n ≡ Some r → part_view l ≡ change (part_view r.label)
    → seen numbered_part k (laid (slice_set slots n (record { parent = r.parent; label = l; below = r.below })))
    ≡ changed_place n change (seen numbered_part k (laid slots))
changed_slot k n [] r l change at is = absurd cc
changed_slot k zero (x ∷ slots) r l change at is =
    let same : x ≡ r = cc in
    ap (λ (y : Slot ExpandedNode). record { parent = y.parent; label = part_view l; below = y.below } ∷ seen numbered_part (k + 1) (laid slots)) (sym same)
    ∙ ap (λ (p : Part). record { parent = x.parent; label = p; below = x.below } ∷ seen numbered_part (k + 1) (laid slots))
    (is ∙ ap (λ (y : Slot ExpandedNode). change (part_view y.label)) (sym same))
changed_slot k (suc n) (x ∷ slots) r l change at is =
    ap (λ rest. record { parent = x.parent; label = part_view x.label; below = x.below } ∷ rest) (changed_slot (k + 1) n slots r l change at is)

pub changed_past : (n : ℕ) (change : Part → Part) (ps : List (Place Part)) → length ps ≤ n → changed_place n change ps ≡ ps
changed_past n change [] past = refl
changed_past zero change (p ∷ ps) past = absurd (omega (arith, past))
changed_past (suc n) change (p ∷ ps) past = ap (λ rest. p ∷ rest) (changed_past n change ps (omega (arith, past)))

-- ---- the row that begins at a number

pub behind_them : (k n : ℕ) (slots : List (Slot ExpandedNode)) (before after : List (Place Part)) → length before ≡ n
    → seen numbered_part k (laid slots) ≡ before ++ after → seen numbered_part (k + n) (laid (drop n slots)) ≡ after
behind_them k n slots [] after count is =
    let none : 0 ≡ n = count in let plain : k + 0 ≡ k = omega arith in
    ap (λ m. seen numbered_part (k + m) (laid (drop m slots))) (sym none) ∙ (ap (λ m. seen numbered_part m (laid slots)) plain ∙ is)
behind_them k zero slots (p ∷ before) after count is = absurd (omega (arith, count))
behind_them k (suc n) [] (p ∷ before) after count is = absurd cc
behind_them k (suc n) (x ∷ slots) (p ∷ before) after count is =
    let next : k + suc n ≡ (k + 1) + n = omega arith in
    let rest : seen numbered_part (k + 1) (laid slots) ≡ before ++ after = cc in
    ap (λ m. seen numbered_part m (laid (drop n slots))) next ∙ behind_them (k + 1) n slots before after (omega (arith, count)) rest

pub row_from : (n : ℕ) (slots : List (Slot ExpandedNode)) (before : List (Place Part)) (p : Option ℕ) (f : Forest Part) → length before ≡ n
    → seen numbered_part 0 (laid slots) ≡ before ++ places p n f → numbered_by numbered_part n (forest_of (drop n slots)) ≡ f
row_from n slots before p f count is =
    let plain : 0 + n ≡ n = omega arith in
    (forest_seen numbered_part f p n (drop n slots)
    (ap (λ m. seen numbered_part m (laid (drop n slots))) (sym plain) ∙ behind_them 0 n slots before (places p n f) count is)).0
