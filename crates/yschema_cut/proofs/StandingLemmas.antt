-- Whether parts stand themselves, by their numbers.
use Rattle.std.proofs.Common.{◌≡◌, ℕ, zero, suc, ◌+◌, Bool, true, List, [], ◌∷◌, get_or, map, Option, Some, None, refl, sym, ap, ◌∙◌}
use Rattle.std.specs.Prelude.{option_map, slice_get, unwrap_or}
use Rattle.std.proofs.lemmas.Option.{slice_get-map}
use Rattle.yspec.specs.Forest.{Forest, preorder}
use Rattle.yspec.specs.linking.Parts.{Part}
use Rattle.ybase_preorder.specs.Layout.{labels_by, laid, places, seen}
use Rattle.ybase_preorder.specs.declared.slot.Slot.{Slot}
use Rattle.ybase_preorder.proofs.LabelLemmas.{preorder_by}
use Rattle.ybase_preorder.proofs.LayoutLemmas.{shown}
use Rattle.yschema_expand.specs.declared.nodes.ExpandedNode.{ExpandedNode}
use Rattle.yschema_expand.specs.NodeView.{numbered_part, part_view}

labels_plain : (k : ℕ) (slots : List (Slot ExpandedNode)) → labels_by numbered_part k slots ≡ map (λ (r : Slot ExpandedNode). part_view r.label) slots
labels_plain k [] = refl
labels_plain k (r ∷ slots) = ap (λ ps. part_view r.label ∷ ps) (labels_plain (k + 1) slots)

-- what is told of each part of a table
pub parts_laid : (test : Part → Bool) (slots : List (Slot ExpandedNode)) (parts : Forest Part) → seen numbered_part 0 (laid slots) ≡ places None 0 parts
    → map (λ (r : Slot ExpandedNode). test (part_view r.label)) slots ≡ map test (preorder parts)
parts_laid test slots parts shows =
    tested slots ∙ ap (map test) (sym (labels_plain 0 slots) ∙ (sym (preorder_by numbered_part slots) ∙ ap preorder (shown numbered_part parts slots shows).0))
  where
    tested : (slots : List (Slot ExpandedNode))
        → map (λ (r : Slot ExpandedNode). test (part_view r.label)) slots ≡ map test (map (λ (r : Slot ExpandedNode). part_view r.label) slots)
    tested [] = refl
    tested (r ∷ slots) = ap (λ bs. test (part_view r.label) ∷ bs) (tested slots)

got : (xs : List Bool) (n : ℕ) (b : Bool) → slice_get xs n ≡ Some b → get_or xs n true ≡ b
got [] n b at = absurd cc
got (x ∷ xs) zero b at = ap (λ o. unwrap_or o b) at
got (x ∷ xs) (suc n) b at = got xs n b at

-- the row of it tells of each
pub tells_by : {A : Type 0} (standing : List Bool) (test : A → Bool) (xs : List A) → standing ≡ map test xs
    → (number : ℕ) (x : A) → slice_get xs number ≡ Some x → get_or standing number true ≡ test x
tells_by standing test xs is number x at =
    got standing number (test x) (ap (λ bs. slice_get bs number) is ∙ (slice_get-map test xs number ∙ ap (option_map test) at))
