-- What comes of nodes that are put in their places.
use Rattle.std.proofs.Common.{◌≡◌, ◌⊎◌, inl, inr, get_or, slice_set, ℕ, zero, suc, ◌+◌, ◌≤◌, ◌==◌, false, cond, List, [], ◌∷◌, ◌++◌, length, drop, map, Option, Some, None, refl, sym, ap, ap₂, subst, ◌∙◌, append_assoc, arith, length-append}
use Rattle.std.specs.Prelude.{slice_get}
use Rattle.std.proofs.lemmas.Bool.{cases_eq, ne_eqb, eq-eqb}
use Rattle.std.proofs.lemmas.List.{append-nil}
use Rattle.std.proofs.lemmas.Option.{slice_get_within}
use Rattle.yspec.specs.Forest.{end, node, join, size}
use Rattle.yspec.specs.linking.Parts.{Part}
use Rattle.ybase_preorder.specs.Layout.{places, opened, closed, laid}
use Rattle.ybase_preorder.specs.declared.slot.Slot.{Slot}
use Rattle.ybase_preorder.proofs.LayoutLemmas.{length-places, places-join, length-laid, length-seen, grown}
use Rattle.yschema_augment.specs.Arranging.{hung_view}
use Rattle.yschema_augment.specs.Hanging.{given_by, hung_at, inner, marked_by, plain}
use Rattle.yschema_expand.specs.NumberedView.{Numbered}
use Rattle.yschema_expand.specs.NodeView.{marked_with, numbered_part, part_view}
use Rattle.yschema_augment.specs.Placing.{Adds, Always, Does, FindsFrom, Leads, Others, marked, steps, steps_in, toll}
use Rattle.yschema_expand.specs.TableView.{slots_of, parts_in}
use Rattle.yschema_augment.specs.declared.applied.Applied.{Applied}
use Rattle.yschema_augment.specs.declared.arranging.Arrangement.{Arrangement}
use Rattle.yschema_augment.specs.declared.arranging.Task.{Task}
use Rattle.yschema_expand.specs.declared.nodes.ExpandedNode.{ExpandedNode}
use Rattle.yschema_expand.specs.declared.table.NodeTable.{NodeTable}
use Rattle.yschema_expand.proofs.TurnLemmas.{leaves_so, leaves_task}
use Rattle.yschema_augment.proofs.HangingLemmas.{Nodes}

-- ---- what is added

pub adds_none : (parent : Option ℕ) (f : Nodes Part) (now : NodeTable) → f ≡ end → Adds parent f now now
adds_none parent f now none = sym (ap (λ g. parts_in now ++ places parent (length (slots_of now)) (plain g)) none ∙ append-nil (parts_in now))

adds_length : (parent : Option ℕ) (f : Nodes Part) (a b : NodeTable) → Adds parent f a b → length (slots_of b) ≡ length (slots_of a) + size (plain f)
adds_length parent f a b added =
    let k = length (slots_of a) in
    sym (length-laid (slots_of b)) ∙ (sym (length-seen numbered_part 0 (laid (slots_of b))) ∙ (ap length added
    ∙ (length-append (parts_in a) (places parent k (plain f))
    ∙ ap₂ (λ m n. m + n) (length-seen numbered_part 0 (laid (slots_of a)) ∙ length-laid (slots_of a)) (length-places parent k (plain f)))))

plain_join : (f g : Nodes Part) → plain (join f g) ≡ join (plain f) (plain g)
plain_join end g = refl
plain_join (node l below after) g = ap (node l.label (plain below)) (plain_join after g)

pub adds_both : (parent : Option ℕ) (f g : Nodes Part) (a b c : NodeTable) → Adds parent f a b → Adds parent g b c → Adds parent (join f g) a c
adds_both parent f g a b c first second =
    let k = length (slots_of a) in
    let here = places parent k (plain f) in
    second ∙ (ap₂ (λ ps n. ps ++ places parent n (plain g)) first (adds_length parent f a b first)
    ∙ (append_assoc (parts_in a) here (places parent (k + size (plain f)) (plain g))
    ∙ ap (λ rest. parts_in a ++ rest) (sym (places-join parent k (plain f) (plain g)) ∙ ap (places parent k) (sym (plain_join f g)))))

-- a node is opened, all below it is added, and it is closed
pub adds_node : (parent : Option ℕ) (l : Numbered Part) (inside : Nodes Part) (label : ExpandedNode) (n : ℕ) (old mid full new : NodeTable)
    → part_view label ≡ l.label → laid (slots_of mid) ≡ laid (slots_of old) ++ opened parent label ∷ [] → n ≡ length (slots_of old)
    → Adds (Some n) inside mid full → laid (slots_of new) ≡ closed n (laid (slots_of full)) → Adds parent (node l inside end) old new
adds_node parent l inside label n old mid full new label_is mid_is n_is full_is new_is =
    let k = length (slots_of old) in
    let below = plain inside in
    grown numbered_part (slots_of old) (slots_of mid) (slots_of full) (slots_of new) parent label n below mid_is n_is full_is new_is
    ∙ ap (λ ps. parts_in old ++ ps)
    (ap₂ (λ (q : Part) m. record { parent = parent; label = q; below = size below } ∷ places (Some m) (m + 1) below) label_is n_is
    ∙ sym (append-nil (record { parent = parent; label = l.label; below = size below } ∷ places (Some k) (k + 1) below)))

-- ---- rows with what they are given

pub given_join : (give : Numbered Part → Nodes Part) (f g : Nodes Part) → given_by give (join f g) ≡ join (given_by give f) (given_by give g)
given_join give end g = refl
given_join give (node l below after) g = ap (node l (join (given_by give below) (give l))) (given_join give after g)

pub marked_join : (m : Option ℕ) (f g : Nodes Part) → marked m (join f g) ≡ join (marked m f) (marked m g)
marked_join None f g = refl
marked_join (Some n) end g = refl
marked_join (Some n) (node l below after) g = ap (node (record l { label = record l.label { added_by = Some n } }) below) (marked_join (Some n) after g)

abbrev pub mark : Option ℕ → Numbered Part → Numbered Part
mark None l = l
mark (Some n) l = record l { label = record l.label { added_by = Some n } }

pub mark_is : (m : Option ℕ) (l : Numbered Part) → marked_with m l.label ≡ (mark m l).label
mark_is None l = refl
mark_is (Some n) l = refl

pub row_first : (give : Numbered Part → Nodes Part) (m : Option ℕ) (l : Numbered Part) (below after : Nodes Part)
    → given_by give (marked m (node l below after)) ≡ node (mark m l) (join (given_by give below) (give (mark m l))) (given_by give (marked m after))
row_first give None l below after = refl
row_first give (Some n) l below after = refl

pub one_first : (give : Numbered Part → Nodes Part) (m : Option ℕ) (l : Numbered Part) (below after : Nodes Part)
    → given_by give (marked m (node l below after)) ≡ join (given_by give (marked m (node l below end))) (given_by give (marked m after))
one_first give None l below after = refl
one_first give (Some n) l below after = refl

pub inner_first : (give : Numbered Part → Nodes Part) (m : Option ℕ) (l : Numbered Part) (below after : Nodes Part)
    → given_by give (marked m (inner (node l below after))) ≡ join (given_by give (marked m below)) (given_by give (marked m (inner after)))
inner_first give m l below after = ap (given_by give) (marked_join m below (inner after)) ∙ given_join give (marked m below) (marked m (inner after))

pub marked_none : (give : Numbered Part → Nodes Part) (m : Option ℕ) (f : Nodes Part) → f ≡ end → given_by give (marked m f) ≡ end
marked_none give None f none = ap (given_by give) none
marked_none give (Some n) f none = ap (λ g. given_by give (marked_by n g)) none

-- ---- places

some_same : {a b : Applied} → Some a ≡ Some b → a ≡ b
some_same e = cc

pub dropped : (order : List Applied) (n : ℕ) (a : Applied) → slice_get order n ≡ Some a → drop n order ≡ a ∷ drop (n + 1) order
dropped [] n a is = absurd cc
dropped (x ∷ order) zero a is = let same : x ≡ a = cc in ap (λ y. y ∷ order) same
dropped (x ∷ order) (suc n) a is =
    let next : suc (n + 1) ≡ suc n + 1 = omega arith in
    dropped order n a is ∙ ap (λ k. a ∷ drop k (x ∷ order)) next

pub dropped_none : (order : List Applied) (n : ℕ) → slice_get order n ≡ None → drop n order ≡ []
dropped_none [] zero is = refl
dropped_none [] (suc n) is = refl
dropped_none (x ∷ order) zero is = absurd cc
dropped_none (x ∷ order) (suc n) is = dropped_none order n is

none_left : (n : ℕ) → drop {A = Applied} n [] ≡ []
none_left zero = refl
none_left (suc n) = refl

pub fewer : (rows : Applied → Nodes Part) (order : List Applied) (from past : ℕ) → from ≤ past → steps_in rows (drop past order) ≤ steps_in rows (drop from order)
fewer rows [] from past less = let here = ap (steps_in rows) (none_left past) in omega (arith, here)
fewer rows (a ∷ order) zero zero less = omega arith
fewer rows (a ∷ order) zero (suc past) less = omega (arith, fewer rows order zero past (omega arith))
fewer rows (a ∷ order) (suc from) zero less = absurd (omega (arith, less))
fewer rows (a ∷ order) (suc from) (suc past) less = fewer rows order from past (omega (arith, less))

pub steps_here : (rows : Applied → Nodes Part) (order : List Applied) (place : ℕ) (a : Applied) → slice_get order place ≡ Some a
    → steps_in rows (drop place order) ≡ 2 + (steps (steps_in rows (drop (place + 1) order)) (rows a) + steps_in rows (drop (place + 1) order))
steps_here rows order place a is = ap (steps_in rows) (dropped order place a is)

-- ---- a place in front of those that follow it

set_here : (P : ℕ → Type 0) (xs : List ℕ) (i v : ℕ) → P v → P 0 → P (get_or (slice_set xs i v) i 0)
set_here P [] zero v one none = none
set_here P [] (suc i) v one none = none
set_here P (x ∷ xs) zero v one none = one
set_here P (x ∷ xs) (suc i) v one none = set_here P xs i v one none

set_there : (xs : List ℕ) (i j v : ℕ) → (j ≡ i → ⊥) → get_or (slice_set xs i v) j 0 ≡ get_or xs j 0
set_there [] zero j v other = refl
set_there [] (suc i) j v other = refl
set_there (x ∷ xs) zero zero v other = absurd (other refl)
set_there (x ∷ xs) zero (suc j) v other = refl
set_there (x ∷ xs) (suc i) zero v other = refl
set_there (x ∷ xs) (suc i) (suc j) v other = set_there xs i j v (λ e. other (omega (arith, e)))

pub found_past : (first next : List ℕ) (order : List Applied) → FindsFrom first next order (length order)
found_past first next order = record {
  first_is = λ target place a low high is. absurd (omega (arith, low, slice_get_within order place a is));
  next_is = λ place a low is. absurd (omega (arith, low, slice_get_within order place a is));
}

pub found_from : (first next : List ℕ) (order : List Applied) (place : ℕ) (a : Applied) → slice_get order place ≡ Some a
    → FindsFrom first next order (place + 1) → FindsFrom (slice_set first a.target place) (slice_set next place (get_or first a.target 0)) order place
found_from first next order place a is known = record {
  first_is = λ target. by_target target (cases_eq target a.target);
  next_is = λ at b low at_is. by_place at b low at_is (cases_eq at place);
}
  where
    by_target : (target : ℕ) → ((target ≡ a.target) ⊎ (target ≡ a.target → ⊥)) → Others order target place (get_or (slice_set first a.target place) target 0)
    by_target target (inl same) = subst (λ t. Others order t place (get_or (slice_set first a.target place) t 0)) (sym same)
        (set_here (λ past. Others order a.target place past) first a.target place
        (λ q b low high q_is q_same. absurd (omega (arith, low, high))) (λ q b low high q_is q_same. absurd (omega (arith, high))))
    by_target target (inr other) = subst (λ past. Others order target place past) (sym (set_there first a.target target place other))
        (λ q b low high q_is q_same. elim (cases_eq q place) [
          | inl e ↦ (let same : a ≡ b = some_same (sym is ∙ (ap (slice_get order) (sym e) ∙ q_is)) in other (sym q_same ∙ ap (λ (c : Applied). c.target) (sym same)))
          | inr e ↦ known.first_is target q b (omega (arith, low, e)) high q_is q_same
        ])

    by_place : (at : ℕ) (b : Applied) → place ≤ at → slice_get order at ≡ Some b → ((at ≡ place) ⊎ (at ≡ place → ⊥))
        → Others order b.target (at + 1) (get_or (slice_set next place (get_or first a.target 0)) at 0)
    by_place at b low at_is (inl same) =
        let is_same : a ≡ b = some_same (sym is ∙ (ap (slice_get order) (sym same) ∙ at_is)) in
        subst (λ (c : Applied). Others order c.target (at + 1) (get_or (slice_set next place (get_or first a.target 0)) at 0)) is_same
        (subst (λ k. Others order a.target (k + 1) (get_or (slice_set next place (get_or first a.target 0)) k 0)) (sym same)
        (set_here (λ past. Others order a.target (place + 1) past) next place (get_or first a.target 0) (known.first_is a.target)
        (λ q c q_low high q_is q_same. absurd (omega (arith, high)))))
    by_place at b low at_is (inr other) =
        subst (λ past. Others order b.target (at + 1) past) (sym (set_there next place at (get_or first a.target 0) other))
        (known.next_is at b (omega (arith, low, other)) at_is)

module _ (starts : List ℕ) (slots : List (Slot ExpandedNode)) (numbers : List ℕ) where
  abbrev pub at : List Applied → Numbered Part → Nodes Part
  at order l = hung_at (map (hung_view starts slots numbers) order) l

  pub given_on : (order : List Applied) (l : Numbered Part) (from past : ℕ) → from ≤ past → Others order l.number from past
      → at (drop from order) l ≡ at (drop past order) l
  given_on [] l from past less others = ap (λ (all : List Applied). at all l) (none_left from ∙ sym (none_left past))
  given_on (a ∷ order) l zero zero less others = refl
  given_on (a ∷ order) l zero (suc past) less others =
      let other : (a.target == l.number) ≡ false = ne_eqb a.target l.number (λ same. others 0 a (omega arith) (omega arith) refl same) in
      ap (λ b. cond b (join (given_by (at order) ((hung_view starts slots numbers a).row l)) (at order l)) (at order l)) other
      ∙ given_on order l zero past (omega arith) (λ place b low high is same. others (suc place) b (omega arith) (omega (arith, high)) is same)
  given_on (a ∷ order) l (suc from) zero less others = absurd (omega (arith, less))
  given_on (a ∷ order) l (suc from) (suc past) less others =
      given_on order l from past (omega (arith, less)) (λ place b low high is same. others (suc place) b (omega (arith, low)) (omega (arith, high)) is same)

  pub given_mark : (order : List Applied) (m : Option ℕ) (l : Numbered Part) → at order (mark m l) ≡ at order l
  given_mark order None l = refl
  given_mark [] (Some n) l = refl
  given_mark (a ∷ order) (Some n) l =
      ap (λ rest. cond (a.target == l.number) (join (given_by (at order) ((hung_view starts slots numbers a).row l)) rest) rest) (given_mark order (Some n) l)

  -- the augment of a place adds below the node of a number, or not
  pub given_here : (order : List Applied) (l : Numbered Part) (place : ℕ) (a : Applied) → slice_get order place ≡ Some a → a.target ≡ l.number
      → at (drop place order) l ≡ join (given_by (at (drop (place + 1) order)) ((hung_view starts slots numbers a).row l)) (at (drop (place + 1) order) l)
  given_here order l place a is same =
      let later = drop (place + 1) order in
      ap (λ (all : List Applied). at all l) (dropped order place a is)
      ∙ ap (λ b. cond b (join (given_by (at later) ((hung_view starts slots numbers a).row l)) (at later l)) (at later l)) (eq-eqb a.target l.number same)

  pub given_later : (order : List Applied) (l : Numbered Part) (place : ℕ) (a : Applied) → slice_get order place ≡ Some a → (a.target ≡ l.number → ⊥)
      → at (drop place order) l ≡ at (drop (place + 1) order) l
  given_later order l place a is other =
      let later = drop (place + 1) order in
      ap (λ (all : List Applied). at all l) (dropped order place a is)
      ∙ ap (λ b. cond b (join (given_by (at later) ((hung_view starts slots numbers a).row l)) (at later l)) (at later l)) (ne_eqb a.target l.number other)

  pub given_none : (order : List Applied) (l : Numbered Part) (place : ℕ) → slice_get order place ≡ None → at (drop place order) l ≡ end
  given_none order l place none = ap (λ (all : List Applied). at all l) (dropped_none order place none)

-- ---- one task left behind

pub leads_by : (x : Arrangement) (that : NodeTable → NodeTable → Type 0) (t : Task) (most : ℕ) (before after : List Task) (made : NodeTable)
    → after ≡ before ++ t ∷ [] → suc (toll x t) ≤ most → ((final : NodeTable) → Does x t made final → that made final)
    → Leads x that most before after made made
leads_by x that t most before after made pushed few so =
    subst (λ ts. Leads x that most before ts made made) (sym pushed)
    (leaves_so (Does x) (toll x) Always (Does x t) that (suc (toll x t)) most before (before ++ t ∷ []) made made so few
    (leaves_task (Does x) (toll x) Always t before made tt))
