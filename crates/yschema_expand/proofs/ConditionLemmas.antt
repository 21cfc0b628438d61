-- The conditions of a row come to the top ones of the last nodes of a table, one after another.
use Rattle.std.proofs.Common.{◌≡◌, Result, Ok, Err, OnOk, ℕ, zero, suc, ◌+◌, ◌<◌, ◌≤◌, List, [], ◌∷◌, ◌++◌, length, Option, Some, None, refl, sym, ap, ap₂, ◌∙◌, arith, append_assoc, length-append}
use Rattle.std.specs.Prelude.{option_map, slice_get}
use Rattle.yspec.specs.Forest.{Forest, end, node, size}
use Rattle.yspec.specs.linking.Source.{Source}
use Rattle.yspec.specs.schema.Breaks.{Break}
use Rattle.yspec.specs.linking.Parts.{Part}
use Rattle.yspec_wide.specs.Language.{Language}
use Rattle.yspec_wide.specs.Expansion.{conditioned}
use Rattle.ybase_preorder.specs.Layout.{Place, places, laid}
use Rattle.ybase_preorder.specs.Layout as layout
use Rattle.ybase_preorder.specs.declared.slot.Slot.{Slot}
use Rattle.ybase_preorder.proofs.LayoutLemmas.{length-laid, length-places, length-seen}
use Rattle.ylink_grammar.specs.BreakView.{seen}
use Rattle.yschema_expand.specs.declared.nodes.ExpandedNode.{ExpandedNode}
use Rattle.yschema_expand.specs.declared.expanding.Made.{Made}
use Rattle.yschema_expand.specs.NodeView.{numbered_part}
use Rattle.yschema_expand.specs.TableView.{changed_place, conditioned_part, parts_in}
use Rattle.yschema_expand.specs.Walk.{Changes}

abbrev Slots : Type 0
Slots = List (Slot ExpandedNode)

abbrev lying : Slots → List (Place Part)
lying slots = layout.seen numbered_part 0 (laid slots)

abbrev below_in : Slots → ℕ → Option ℕ
below_in slots n = option_map (λ (r : Slot ExpandedNode). r.below) (slice_get slots n)

-- how many stand below the first of a row
abbrev first_below : Forest Part → Option ℕ
first_below end = None
first_below (node p below after) = Some (size below)

below_at : (k m n : ℕ) (slots : Slots) (before : List (Place Part)) (q : Option ℕ) (f : Forest Part) → length before ≡ n
    → layout.seen numbered_part k (laid slots) ≡ before ++ places q m f → below_in slots n ≡ first_below f
below_at k m n [] [] q end count is = refl
below_at k m n [] [] q (node p below after) count is = absurd cc
below_at k m n [] (p ∷ before) q f count is = absurd cc
below_at k m n (x ∷ slots) [] q end count is = absurd cc
below_at k m zero (x ∷ slots) [] q (node p below after) count is =
    ap (λ (ps : List (Place Part)). first_of_them ps) is
  where
    first_of_them : List (Place Part) → Option ℕ
    first_of_them [] = None
    first_of_them (y ∷ ys) = Some y.below
below_at k m (suc n) (x ∷ slots) [] q (node p below after) count is = absurd (omega (arith, count))
below_at k m zero (x ∷ slots) (p ∷ before) q f count is = absurd (omega (arith, count))
below_at k m (suc n) (x ∷ slots) (p ∷ before) q f count is = below_at (k + 1) m n slots before q f (omega (arith, count)) (ap rest is)
  where
    rest : List (Place Part) → List (Place Part)
    rest [] = []
    rest (y ∷ ys) = ys

pub below_within : (slots : Slots) (n b : ℕ) → below_in slots n ≡ Some b → n < length slots
below_within [] n b e = absurd cc
below_within (x ∷ slots) zero b e = omega arith
below_within (x ∷ slots) (suc n) b e = let less = below_within slots n b e in omega (arith, less)

changed_there : (before : List (Place Part)) (n : ℕ) (change : Part → Part) (p : Place Part) (ps : List (Place Part)) → length before ≡ n
    → changed_place n change (before ++ p ∷ ps) ≡ before ++ record { parent = p.parent; label = change p.label; below = p.below } ∷ ps
changed_there [] zero change p ps count = refl
changed_there [] (suc n) change p ps count = absurd (omega (arith, count))
changed_there (x ∷ before) zero change p ps count = absurd (omega (arith, count))
changed_there (x ∷ before) (suc n) change p ps count = ap (λ qs. x ∷ qs) (changed_there before n change p ps (omega (arith, count)))

pub length_changed : (n : ℕ) (change : Part → Part) (ps : List (Place Part)) → length (changed_place n change ps) ≡ length ps
length_changed n change [] = refl
length_changed zero change (p ∷ ps) = refl
length_changed (suc n) change (p ∷ ps) = ap suc (length_changed n change ps)

pub length_lying : (slots : Slots) → length (lying slots) ≡ length slots
length_lying slots = length-seen numbered_part 0 (laid slots) ∙ length-laid slots

module _ (language : Language) (given : Forest Source) (earlier : List (Place Part)) (parent : Option ℕ) (first : ℕ) (f : Forest Part) where
  -- The first ones have them; the others, which begin at a number, are those that are left.
  abbrev pub Conditioned : ℕ → List (Place Part) → Type 0
  Conditioned number ps = (before : List (Place Part)) × (left : Forest Part) × (length before ≡ number) × (ps ≡ before ++ places parent number left)
      × (before ++ places parent number (conditioned language given left) ≡ earlier ++ places parent first (conditioned language given f))

  pub none_yet : (ps : List (Place Part)) → length earlier ≡ first → ps ≡ earlier ++ places parent first f → Conditioned first ps
  none_yet ps count is = (earlier, f, count, is, refl)

  abbrev change : Part → Part
  change = conditioned_part language given

  pub next_conditioned : (number next b : ℕ) (slots : Slots) (qs : List (Place Part)) → Conditioned number (lying slots) → below_in slots number ≡ Some b
      → qs ≡ changed_place number change (lying slots) → (number + suc b ≤ length slots → next ≡ number + suc b) → Conditioned next qs
  next_conditioned number next b slots qs so_far some changed next_is =
      by so_far.1 so_far.3 so_far.4 (sym (below_at 0 number number slots so_far.0 parent so_far.1 so_far.2 so_far.3) ∙ some)
    where
      before : List (Place Part)
      before = so_far.0

      by : (left : Forest Part) → lying slots ≡ before ++ places parent number left
          → before ++ places parent number (conditioned language given left) ≡ earlier ++ places parent first (conditioned language given f)
          → first_below left ≡ Some b → Conditioned next qs
      by end is whole e = absurd cc
      by (node p below after) is whole e =
          let below_is : size below ≡ b = cc in
          let own : Place Part = record { parent = parent; label = change p; below = size below } in
          let under = places (Some number) (number + 1) below in
          let here = before ++ own ∷ under in
          let count : length here ≡ number + suc b =
          length-append before (own ∷ under) ∙ ap₂ (λ m n. m + suc n) so_far.2 (length-places (Some number) (number + 1) below ∙ below_is) in
          let all = sym (length_lying slots) ∙ (ap length is ∙ length-append before (places parent number (node p below after))) in
          let row = length-places parent number (node p below after) in
          let next_there : next ≡ number + suc b = next_is (let counted = so_far.2 in omega (arith, all, row, counted, below_is)) in
          let number_is : number + suc (size below) ≡ next = ap (λ n. number + suc n) below_is ∙ sym next_there in (
            here,
            after,
            count ∙ sym next_there,
            changed ∙ (ap (changed_place number change) is
                ∙ (changed_there before number change (record { parent = parent; label = p; below = size below }) (under ++ places parent (number + suc (size below)) after) so_far.2
                ∙ (ap (λ n. before ++ own ∷ (under ++ places parent n after)) number_is ∙ sym (append_assoc before (own ∷ under) (places parent next after))))),
            append_assoc before (own ∷ under) (places parent next (conditioned language given after))
                ∙ (ap (λ n. before ++ own ∷ (under ++ places parent n (conditioned language given after))) (sym number_is) ∙ whole),
          )

  pub all_conditioned : (number : ℕ) (slots : Slots) → Conditioned number (lying slots) → below_in slots number ≡ None
      → lying slots ≡ earlier ++ places parent first (conditioned language given f)
  all_conditioned number slots so_far none =
      by so_far.1 so_far.3 so_far.4 (sym (below_at 0 number number slots so_far.0 parent so_far.1 so_far.2 so_far.3) ∙ none)
    where
      by : (left : Forest Part) → lying slots ≡ so_far.0 ++ places parent number left
          → so_far.0 ++ places parent number (conditioned language given left) ≡ earlier ++ places parent first (conditioned language given f)
          → first_below left ≡ None → lying slots ≡ earlier ++ places parent first (conditioned language given f)
      by end is whole e = is ∙ whole
      by (node p below after) is whole e = absurd cc

-- and so where they have come from others
pub then_conditioned : {A E : Type 0} (language : Language) (given : Forest Source) (r : Result A E) (first : ℕ) (nodes mid : Forest Part) (breaks : List Break) (old now new : Made)
    → Changes first nodes mid breaks old now → new.told ≡ now.told
    → ((earlier : List (Place Part)) (parent : Option ℕ) (f : Forest Part) → length earlier ≡ first → parts_in now.table ≡ earlier ++ places parent first f
    → OnOk r (parts_in new.table ≡ earlier ++ places parent first (conditioned language given f)))
    → OnOk r (Changes first nodes (conditioned language given mid) breaks old new)
then_conditioned language given (Ok a) first nodes mid breaks old now new changes told more = λ earlier parent count at.
    let one = changes earlier parent count at in
    (more earlier parent mid count one.0, ap seen told ∙ one.1)
then_conditioned language given (Err e) first nodes mid breaks old now new changes told more = tt
