-- What the walk puts in is what is written of the stored row.
use Rattle.std.proofs.Common.{◌≡◌, ℕ, suc, ◌+◌, ◌≤◌, ◌<◌, Bool, true, false, cond, eqb, [], ◌∷◌, Option, Some, refl, sym, ap, ap₂, ◌∙◌, arith}
use Rattle.std.proofs.lemmas.Bool.{eqb-true, lt-ltb}
use Rattle.serde_json.specs.Data.{Members, no_members, item, array, put}
use Rattle.yspec.specs.Forest.{Forest, end, node, size}
use Rattle.yspec.specs.schema.Schema.{Schema, SchemaNode, Kind, is_data, is_many, written_name}
use Rattle.yspec.specs.text.Text.{Text}
use Rattle.yspec.specs.document.Document.{Stored, Tree, instances}
use Rattle.yspec.specs.document.Fitting.{IsNumbered}
use Rattle.yspec.specs.document.Sorting.{IsSorted, from_number, each_front}
use Rattle.yspec.specs.document.RowFaults.{each_instance}
use Rattle.yspec.specs.document.Writing.{written_node, written_items, with_instances, row_members}
use Rattle.yspec.proofs.DocumentProofs.CursorLemmas.{each_is_front, left_twice}
use Rattle.yinst_tree.specs.View.{Labelled, row_of}
use Rattle.yinst_tree.specs.Walk.{front, behind, mine, others, Left, walked}

-- ---- instances

abbrev both : Stored → Tree → Labelled
both s below = (s, below)

row_instances : (m : ℕ) (t : Tree) → row_of (each_instance m both t) ≡ instances m t
row_instances m end = refl
row_instances m (node s below after) = by (eqb s.schema_number m) (row_instances m after)
  where
    by : (b : Bool) → row_of (each_instance m both after) ≡ instances m after
        → row_of (cond b (both s below ∷ each_instance m both after) (each_instance m both after)) ≡ cond b (node s below (instances m after)) (instances m after)
    by true h = ap (node s below) h
    by false h = h

row_front : (m : ℕ) (t : Tree) → row_of (each_front m both t) ≡ front m t
row_front m end = refl
row_front m (node s below after) = by (eqb s.schema_number m) (row_front m after)
  where
    by : (b : Bool) → row_of (each_front m both after) ≡ front m after
        → row_of (cond b (both s below ∷ each_front m both after) []) ≡ cond b (node s below (front m after)) end
    by true h = ap (node s below) h
    by false h = refl

-- in a row in order they stand at the front of what is left from their number on
instances_mine : (m : ℕ) (t : Tree) → IsSorted t → instances m t ≡ mine m t
instances_mine m t sorted = sym (row_instances m t) ∙ (ap row_of (each_is_front m both t sorted) ∙ row_front m (from_number m t))

from_behind : (m k : ℕ) (t : Tree) → m < k → from_number k (behind m t) ≡ from_number k t
from_behind m k end past = refl
from_behind m k (node s below after) past = by (eqb s.schema_number m) refl (from_behind m k after past)
  where
    by : (b : Bool) → eqb s.schema_number m ≡ b → from_number k (behind m after) ≡ from_number k after
        → from_number k (cond b (behind m after) (node s below after)) ≡ from_number k (node s below after)
    by true is h = h ∙ sym (ap (λ c. cond c (from_number k after) (node s below after)) (lt-ltb s.schema_number k (omega (arith, past, eqb-true s.schema_number m is))))
    by false is h = refl

-- ---- what is left of a row

-- of a row is left what stands there from a number on
abbrev pub IsLeft : ℕ → Tree → Tree → Type 0
IsLeft k rest t = (m : ℕ) → k ≤ m → from_number m rest ≡ from_number m t

pub left_later : (k m : ℕ) (rest t : Tree) → k ≤ m → IsLeft k rest t → IsLeft m rest t
left_later k m rest t more left = λ i from. left i (omega (arith, more, from))

pub left_others : (n k : ℕ) (rest t : Tree) → n < k → IsLeft n rest t → IsLeft k (others n rest) t
left_others n k rest t past left = λ m from.
    from_behind n m (from_number n rest) (omega (arith, past, from))
    ∙ (left_twice rest n m (omega (arith, past, from)) ∙ left m (omega (arith, past, from)))

pub mine_left : (n : ℕ) (rest t : Tree) → IsSorted t → IsLeft n rest t → mine n rest ≡ instances n t
mine_left n rest t sorted left = ap (front n) (left n (omega arith)) ∙ sym (instances_mine n t sorted)

-- ---- instances that are written the same

-- what stands below each node of the row is in order
abbrev AreSorted : Tree → Type 0
AreSorted end = Unit {0}
AreSorted (node s below after) = IsSorted below × AreSorted after

sorted_instances : (m : ℕ) (t : Tree) → IsSorted t → AreSorted (instances m t)
sorted_instances m end sorted = tt
sorted_instances m (node s below after) sorted = by (eqb s.schema_number m) (sorted_instances m after sorted.2)
  where
    by : (b : Bool) → AreSorted (instances m after) → AreSorted (cond b (node s below (instances m after)) (instances m after))
    by true h = (sorted.1, h)
    by false h = h

module _ (inner other : Tree → Members) (same : (t : Tree) → IsSorted t → inner t ≡ other t) where
  items_same : (kind : Kind) (t : Tree) → AreSorted t → written_items kind inner t ≡ written_items kind other t
  items_same kind end sorted = refl
  items_same kind (node s below after) sorted =
      ap₂ (λ ms ds. item (written_node kind s.value ms) ds) (same below sorted.0) (items_same kind after sorted.1)

  instances_same : (name : Text) (kind : Kind) (t : Tree) (found : Members) → AreSorted t
      → with_instances name kind inner t found ≡ with_instances name kind other t found
  instances_same name kind end found sorted = refl
  instances_same name kind (node s below after) found sorted =
      ap₂ (λ ds ms. put name (cond (is_many kind) (array ds) (written_node kind s.value ms)) found)
      (items_same kind (node s below after) sorted) (same below sorted.0)

-- ---- the walk

abbrev IsWalked : Schema → Option ℕ → Forest SchemaNode → Tree → Members → ℕ → Left → Type 0
IsWalked s parent f t found high left = (left.0 ≡ row_members s parent f t found) × IsLeft high left.1 t

-- over a row of schema nodes, from what is left of the stored row
pub walked_on : (s : Schema) (parent : Option ℕ) (f : Forest SchemaNode) (k : ℕ) (t rest : Tree) (found : Members) → IsNumbered k f → IsSorted t → IsLeft k rest t
    → IsWalked s parent f t found (k + size f) (walked s parent f (found, rest))
unfolding walked row_members
walked_on s parent end k t rest found numbered sorted left = (refl, left_later k (k + 0) rest t (omega arith) left)
walked_on s parent (node n below after) k t rest found numbered sorted left =
    by (is_data n.kind) (walked_on s parent below (k + 1) t rest found numbered.1 sorted (left_later k (k + 1) rest t (omega arith) left))
    (λ u sorted_u. (walked_on s (Some n.module_number) below (k + 1) u u no_members numbered.1 sorted_u (λ m from. refl)).0)
    (λ x u is_left. walked_on s parent after (k + 1 + size below) t u x numbered.2 sorted is_left)
  where
    name : Text
    name = written_name s parent n

    inner : Tree → Members
    inner u = (walked s (Some n.module_number) below (no_members, u)).0

    inside : Tree → Members
    inside u = row_members s (Some n.module_number) below u no_members

    by : (b : Bool) → IsWalked s parent below t found (k + 1 + size below) (walked s parent below (found, rest))
        → ((u : Tree) → IsSorted u → inner u ≡ inside u)
        → ((x : Members) (u : Tree) → IsLeft (k + 1 + size below) u t → IsWalked s parent after t x (k + 1 + size below + size after) (walked s parent after (x, u)))
        → IsWalked s parent after t (cond b (with_instances name n.kind inside (instances n.number t) found) (row_members s parent below t found)) (k + suc (size below + size after))
        (walked s parent after (cond b (with_instances name n.kind inner (mine n.number rest) found, others n.number rest) (walked s parent below (found, rest))))
    by true passed same later =
        let first : IsLeft n.number rest t = λ m from. left m (omega (arith, from, numbered.0)) in
        let put_in = ap (λ x. with_instances name n.kind inner x found) (mine_left n.number rest t sorted first)
        ∙ instances_same inner inside same name n.kind (instances n.number t) found (sorted_instances n.number t sorted) in
        let behind_it = left_others n.number (k + 1 + size below) rest t (omega (arith, numbered.0)) first in
        let rest_of = later (with_instances name n.kind inner (mine n.number rest) found) (others n.number rest) behind_it in (
          rest_of.0 ∙ ap (row_members s parent after t) put_in,
          λ m from. rest_of.1 m (omega (arith, from)),
        )
    by false passed same later =
        let rest_of = later (walked s parent below (found, rest)).0 (walked s parent below (found, rest)).1 passed.1 in (
          rest_of.0 ∙ ap (row_members s parent after t) passed.0,
          λ m from. rest_of.1 m (omega (arith, from)),
        )
