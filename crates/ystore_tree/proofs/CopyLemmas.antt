-- What a store lists below a row is what hangs on it.
use Rattle.std.proofs.Common.{◌≡◌, ℕ, zero, suc, ◌+◌, ◌-◌, ◌<◌, ◌≤◌, List, [], ◌∷◌, ◌++◌, length, length-append, take, map, Option, Some, None, option_map, Result, Ok, Err, IfOk, refl, sym, ap, ap₂, ◌∙◌, arith, slice_get}
use Rattle.std.proofs.lemmas.Option.{none-some, same_Some, slice_get_within}
use Rattle.std.specs.Prelude.{option_and_then}
use Rattle.std.specs.Option.{option_map_or}
use Rattle.yspec.specs.Forest.{end, node, size, levels}
use Rattle.yspec.specs.types.Types.{Raw}
use Rattle.yspec.specs.document.Document.{Stored, Tree}
use Rattle.yinst_tree.specs.View.{Labelled, row_of, row_view, view}
use Rattle.yinst_tree.specs.declared.tree.Stored as tree
use Rattle.ystore_rows.specs.Rows.{Child}
use Rattle.ystore.specs.Held.{Held, Label, Shape}
use Rattle.ystore.specs.Store.{held_at, children_at, label_at, node_count}
use Rattle.ystore_rows.specs.declared.row.Row.{Row}
use Rattle.ystore_rows.specs.declared.row.Row.TheVariants.{Top, Below}
use Rattle.ystore.specs.declared.nodes.Nodes.{Nodes}
use Rattle.ystore_tree.specs.Hanging.{Numbered, Branches, stored_of, tree_of, child_of, children_of, shape_at, shape_of, Stands, Hangs, Holds}
use Rattle.ystore_tree.specs.Copies.{stored_at, listed_below, row_of_children}
use Rattle.ystore_tree.proofs.HangingLemmas as hanging

pub label_shape : (o : Option Held) → option_map_or (λ held. held.shape.label) o None ≡ option_map_or (λ (s : Shape). s.label) (option_map (λ held. held.shape) o) None
label_shape (Some held) = refl
label_shape None = refl

stored_is : (nodes : Nodes) (above : Row) (n : Numbered) (below : Branches) → shape_at nodes (Below n.id) ≡ Some (shape_of above n below)
    → stored_at nodes (child_of n) ≡ stored_of n
stored_is nodes above n below is =
    ap (λ (o : Option Label). record { schema_number = n.schema.0; value = option_and_then (λ l. l.value) o })
    (label_shape (held_at nodes (Below n.id)) ∙ ap (λ o. option_map_or (λ (s : Shape). s.label) o None) is)

row_listed : (nodes : Nodes) (k : ℕ)
    → ((above : Row) (f : Branches) → Hangs nodes above f → levels f ≤ k → listed_below k nodes above ≡ tree_of f)
    → (above : Row) (f : Branches) → Stands nodes above f → levels f ≤ suc k
    → row_of (map (λ c. (stored_at nodes c, listed_below k nodes (Below c.1))) (children_of f)) ≡ tree_of f
row_listed nodes k deeper above end stands within = refl
row_listed nodes k deeper above (node n below after) stands within =
    let later = row_listed nodes k deeper above after stands.2 (omega (arith, within)) in
    let under = deeper (Below n.id) below (record { listed = hanging.listed_below nodes above n below stands.0; stands = stands.1 }) (omega (arith, within)) in
    let here = stored_is nodes above n below stands.0 in
    ap (λ (s : Stored). node s (listed_below k nodes (Below n.id)) (row_of (map (λ c. (stored_at nodes c, listed_below k nodes (Below c.1))) (children_of after)))) here
    ∙ (ap (λ (t : Tree). node (stored_of n) t (row_of (map (λ c. (stored_at nodes c, listed_below k nodes (Below c.1))) (children_of after)))) under
    ∙ ap (λ (t : Tree). node (stored_of n) (tree_of below) t) later)

pub listed : (nodes : Nodes) (k : ℕ) (above : Row) (f : Branches) → Hangs nodes above f → levels f ≤ k → listed_below k nodes above ≡ tree_of f
listed nodes zero above end hangs within = refl
listed nodes zero above (node n below after) hangs within = absurd (omega (arith, within))
listed nodes (suc k) above f hangs within =
    ap (λ cs. row_of (map (λ c. (stored_at nodes c, listed_below k nodes (Below c.1))) cs)) hangs.listed
    ∙ row_listed nodes k (λ a g. listed nodes k a g) above f hangs.stands within

-- no forest has more levels than nodes
pub levels_within : (f : Branches) → levels f ≤ size f
levels_within end = omega arith
levels_within (node n below after) = let x = levels_within below in let y = levels_within after in omega (arith, x, y)

pub copied : {X E : Type 0} (r : Result X E) (see : X → Tree) (nodes : Nodes) (f : Branches) → Hangs nodes Top f → size f ≤ node_count nodes
    → IfOk r (λ x. see x ≡ listed_below (node_count nodes) nodes Top) → IfOk r (λ x. see x ≡ tree_of f)
copied (Ok x) see nodes f hangs within is = is ∙ listed nodes (node_count nodes) Top f hangs (let deep = levels_within f in omega (arith, deep, within))
copied (Err e) see nodes f hangs within is = tt

pub copied_document : {X E : Type 0} (r : Result X E) (see : X → Tree) (nodes : Nodes) (t : Tree) → Holds nodes t
    → IfOk r (λ x. see x ≡ listed_below (node_count nodes) nodes Top) → IfOk r (λ x. see x ≡ t)
copied_document (Ok x) see nodes t holds is =
    let f = holds.branches in
    let all = holds.keeps.all in
    let deep = levels_within f in
    is ∙ (listed nodes (node_count nodes) Top f holds.keeps.hangs (omega (arith, deep, all)) ∙ holds.is_tree)
copied_document (Err e) see nodes t holds is = tt

pub deeper : (k : ℕ) (nodes : Nodes) (above : Row) → 0 < k → row_of_children (k - 1) nodes (children_at nodes above) ≡ listed_below k nodes above
deeper zero nodes above more = absurd (omega (arith, more))
deeper (suc k) nodes above more =
    let e : suc k - 1 ≡ k = omega arith in
    ap (λ j. row_of_children j nodes (children_at nodes above)) e

abbrev child_view : ℕ → Nodes → Child → Labelled
child_view levels nodes c = (stored_at nodes c, listed_below levels nodes (Below c.1))

take_more : (cs : List Child) (i : ℕ) (c : Child) → slice_get cs i ≡ Some c → take (suc i) cs ≡ take i cs ++ c ∷ []
take_more [] i c there = absurd (none-some c there)
take_more (x ∷ cs) zero c there = ap (λ y. y ∷ []) (same_Some x c there)
take_more (x ∷ cs) (suc i) c there = ap (λ xs. x ∷ xs) (take_more cs i c there)

map_last : {X : Type 0} (f : X → Labelled) (xs : List X) (x : X) → map f (xs ++ x ∷ []) ≡ map f xs ++ f x ∷ []
map_last f [] x = refl
map_last f (y ∷ xs) x = ap (λ ls. f y ∷ ls) (map_last f xs x)

pub copy_is : (levels : ℕ) (nodes : Nodes) (c : Child) (seen : Labelled) (v w : Option Raw) (t : Tree)
    → seen.0 ≡ record { schema_number = c.0.0; value = v } → v ≡ w → w ≡ option_and_then (λ l. l.value) (label_at nodes c.1)
    → seen.1 ≡ t → t ≡ listed_below levels nodes (Below c.1) → seen ≡ (stored_at nodes c, listed_below levels nodes (Below c.1))
copy_is levels nodes c seen v w t label same held below deep =
    ap₂ (λ (s : Stored) (r : Tree). (s, r)) (label ∙ ap (λ (v : Option Raw). record { schema_number = c.0.0; value = v }) (same ∙ held)) (below ∙ deep)

module _ (cs : List Child) (done after : List tree.Stored) (s : tree.Stored) (one_more : after ≡ done ++ s ∷ []) (c : Child) (there : slice_get cs (length done) ≡ Some c) where
  long : length after ≡ suc (length done)
  long = ap length one_more ∙ (let one : length (done ++ s ∷ []) ≡ suc (length done) = omega (arith, length-append done (s ∷ [])) in one)

  pub fewer : length cs - length after < length cs - length done
  fewer = omega (arith, long, slice_get_within cs (length done) c there)

  pub one_copied : (levels : ℕ) (nodes : Nodes)
      → map view done ≡ map (λ c. (stored_at nodes c, listed_below levels nodes (Below c.1))) (take (length done) cs)
      → view s ≡ (stored_at nodes c, listed_below levels nodes (Below c.1))
      → map view after ≡ map (λ c. (stored_at nodes c, listed_below levels nodes (Below c.1))) (take (length after) cs)
  one_copied levels nodes so is =
      ap (map view) one_more
      ∙ (map_last view done s
      ∙ (ap₂ (λ (ls : List Labelled) (l : Labelled). ls ++ l ∷ []) so is
      ∙ (sym (map_last (child_view levels nodes) (take (length done) cs) c)
      ∙ (ap (map (child_view levels nodes)) (sym (take_more cs (length done) c there))
      ∙ ap (λ n. map (child_view levels nodes) (take n cs)) (sym long)))))

take_whole : (cs : List Child) (n : ℕ) → slice_get cs n ≡ None → take n cs ≡ cs
take_whole [] zero none = refl
take_whole [] (suc n) none = refl
take_whole (x ∷ cs) zero none = absurd (none-some x (sym none))
take_whole (x ∷ cs) (suc n) none = ap (λ xs. x ∷ xs) (take_whole cs n none)

pub all_copied : (levels : ℕ) (nodes : Nodes) (cs : List Child) (done : List tree.Stored)
    → map view done ≡ map (λ c. (stored_at nodes c, listed_below levels nodes (Below c.1))) (take (length done) cs) → slice_get cs (length done) ≡ None
    → row_view done ≡ row_of_children levels nodes cs
all_copied levels nodes cs done so none = ap row_of (so ∙ ap (map (child_view levels nodes)) (take_whole cs (length done) none))

pub same_if_ok : {X E : Type 0} (r : Result X E) (see : X → Tree) (a b : Tree) → a ≡ b → IfOk r (λ x. see x ≡ a) → IfOk r (λ x. see x ≡ b)
same_if_ok (Ok x) see a b is h = h ∙ is
same_if_ok (Err e) see a b is h = tt
