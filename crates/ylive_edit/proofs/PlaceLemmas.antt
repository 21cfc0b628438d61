-- The place of a node among those of its schema node.
use Rattle.std.proofs.Common.{◌≡◌, ℕ, zero, suc, ◌+◌, ◌≤◌, Bool, true, false, not, cond, eqb, List, [], ◌∷◌, slice_get, Some, refl, sym, ap, subst, ◌∙◌, arith, one-add}
use Rattle.std.proofs.lemmas.Bool.{eq-eqb}
use Rattle.std.proofs.lemmas.Option.{none-some, same_Some}
use Rattle.yspec.specs.Forest.{end, node, join}
use Rattle.yspec.specs.schema.Schema.{Schema}
use Rattle.yspec.specs.document.Document.{Tree, Step, instances_in}
use Rattle.yschema_model.specs.declared.node.SchemaId.{SchemaId}
use Rattle.ystore.specs.Entries.{StandsOnce, place_of}
use Rattle.ystore_rows.specs.Rows.{of_schema}
use Rattle.ystore.specs.Store.{children_at}
use Rattle.ystore_rows.specs.declared.row.NodeId.{NodeId}
use Rattle.ystore_rows.specs.declared.row.Row.{Row}
use Rattle.ystore.specs.declared.nodes.Nodes.{Nodes}
use Rattle.ystore_tree.specs.Hanging.{Numbered, Branches, child_of, children_of, is_number, times, tree_of}
use Rattle.ystore_tree.specs.Ways.{Found}
use Rattle.ystore_tree.proofs.FoundLemmas.{instances-cons, of_schema-cons}
use Rattle.ystore_tree.proofs.HangingLemmas.{weigh_around}
use Rattle.ylive_marks.specs.Keys.{among}
use Rattle.ylive_marks.proofs.IndexLemmas.{among-cons}
use Rattle.ylive_marks.proofs.TotalLemmas.{mark}
use Rattle.ylive_edit.specs.Places.{IsAt}
use Rattle.ylive_edit.proofs.LocatingLemmas.{hangs_at}

-- ---- lists of nodes

stands_at : (ids : List NodeId) (k : ℕ) (it : NodeId) → slice_get ids k ≡ Some it → 1 ≤ among it.0 ids
stands_at [] k it here = absurd (none-some it here)
stands_at (x ∷ ids) zero it here =
    let count = among-cons it.0 x ids in
    let one : mark (eqb x.0 it.0) ≡ 1 = ap mark (eq-eqb x.0 it.0 (ap (λ (n : NodeId). n.0) (same_Some x it here))) in
    omega (arith, count, one)
stands_at (x ∷ ids) (suc k) it here = let count = among-cons it.0 x ids in let rest = stands_at ids k it here in omega (arith, count, rest)

-- one that stands there once is found where it stands
only_at : (it : NodeId) (ids : List NodeId) (k : ℕ) → among it.0 ids ≤ 1 → slice_get ids k ≡ Some it → place_of it ids ≡ k
only_at it [] k few here = absurd (none-some it here)
only_at it (x ∷ ids) zero few here =
    ap (λ b. cond (not b) (1 + place_of it ids) 0) (eq-eqb x.0 it.0 (ap (λ (n : NodeId). n.0) (same_Some x it here)))
only_at it (x ∷ ids) (suc k) few here = by (eqb x.0 it.0) refl (λ less. only_at it ids k less here)
  where
    by : (b : Bool) → eqb x.0 it.0 ≡ b → (among it.0 ids ≤ 1 → place_of it ids ≡ k) → place_of it (x ∷ ids) ≡ suc k
    by true e more =
        let count = among-cons it.0 x ids in
        let one : mark (eqb x.0 it.0) ≡ 1 = ap mark e in
        let rest = stands_at ids k it here in
        absurd (omega (arith, few, count, one, rest))
    by false e more =
        let count = among-cons it.0 x ids in
        ap (λ b. cond (not b) (1 + place_of it ids) 0) e ∙ (ap (λ m. 1 + m) (more (omega (arith, few, count))) ∙ one-add k)

once_listed : (it : NodeId) (ids : List NodeId) → among it.0 ids ≤ 1 → StandsOnce it ids
once_listed it ids few j k here there = sym (only_at it ids j few here) ∙ only_at it ids k few there

-- ---- rows

listed_first : (id : SchemaId) (before : Branches) (n : Numbered) (below rest : Branches) → n.schema ≡ id
    → slice_get (of_schema id (children_of (join before (node n below rest)))) (instances_in (tree_of before) id.0) ≡ Some n.id
listed_first id end n below rest same =
    ap (λ (ids : List NodeId). slice_get ids 0) (of_schema-cons id (child_of n) (children_of rest) true (eq-eqb n.schema.0 id.0 (ap (λ (i : SchemaId). i.0) same)))
listed_first id (node m under after) n below rest same = by (eqb m.schema.0 id.0) refl (listed_first id after n below rest same)
  where
    others : Branches
    others = join after (node n below rest)

    ids : List NodeId
    ids = of_schema id (children_of others)

    by : (b : Bool) → eqb m.schema.0 id.0 ≡ b → slice_get ids (instances_in (tree_of after) id.0) ≡ Some n.id
        → slice_get (of_schema id (child_of m ∷ children_of others)) (instances_in (tree_of (node m under after)) id.0) ≡ Some n.id
    by true e more =
        let index : instances_in (tree_of (node m under after)) id.0 ≡ suc (instances_in (tree_of after) id.0) =
        let one = instances-cons m under after id.0 true e in omega (arith, one) in
        ap (λ (xs : List NodeId). slice_get xs (instances_in (tree_of (node m under after)) id.0)) (of_schema-cons id (child_of m) (children_of others) true e)
        ∙ (ap (slice_get (m.id ∷ ids)) index ∙ more)
    by false e more =
        let index : instances_in (tree_of (node m under after)) id.0 ≡ instances_in (tree_of after) id.0 =
        let none = instances-cons m under after id.0 false e in omega (arith, none) in
        ap (λ (xs : List NodeId). slice_get xs (instances_in (tree_of (node m under after)) id.0)) (of_schema-cons id (child_of m) (children_of others) false e)
        ∙ (ap (slice_get ids) index ∙ more)

found_listed : (id : SchemaId) (k : ℕ) (it : NodeId) (f : Branches) → Found id k it f → slice_get (of_schema id (children_of f)) k ≡ Some it
found_listed id k it f found =
    ap (λ g. slice_get (of_schema id (children_of g)) k) found.is_row
    ∙ (ap (slice_get (of_schema id (children_of (join found.frame.before (node found.frame.label found.below found.frame.after))))) (sym found.is_index)
    ∙ (listed_first id found.frame.before found.frame.label found.below found.frame.after found.is_schema ∙ ap Some found.is_id))

few_listed : (id : SchemaId) (number : ℕ) (f : Branches) → among number (of_schema id (children_of f)) ≤ times number f
few_listed id number end = omega arith
few_listed id number (node n below after) = by (eqb n.schema.0 id.0) refl (few_listed id number after)
  where
    by : (b : Bool) → eqb n.schema.0 id.0 ≡ b → among number (of_schema id (children_of after)) ≤ times number after
        → among number (of_schema id (children_of (node n below after))) ≤ times number (node n below after)
    by true e rest =
        let list = ap (among number) (of_schema-cons id (child_of n) (children_of after) true e) in
        let count = among-cons number n.id (of_schema id (children_of after)) in
        let own : mark (eqb n.id.0 number) ≡ is_number number n = refl in
        omega (arith, list, count, own, rest)
    by false e rest = let list = ap (among number) (of_schema-cons id (child_of n) (children_of after) false e) in omega (arith, list, rest)

-- the node that is found in a row of a document has its index as its place
pub place_found : (s : Schema) (nodes : Nodes) (tree : Tree) (steps : List Step) (above : Row) (f : Branches) → IsAt s nodes tree steps above f
    → (id : SchemaId) (k : ℕ) (it : NodeId) → Found id k it f
    → (place : ℕ) → (StandsOnce it (of_schema id (children_at nodes above)) → place ≡ place_of it (of_schema id (children_at nodes above)))
    → place ≡ k
place_found s nodes tree steps above f at id k it found place is =
    let hangs = hangs_at s nodes tree steps above f at in
    let once = at.keeps.once it.0 in
    let whole = weigh_around (is_number it.0) at.way f in
    let listed = few_listed id it.0 f in
    let few : among it.0 (of_schema id (children_of f)) ≤ 1 = omega (arith, once, whole, listed) in
    subst (λ cs. StandsOnce it (of_schema id cs) → place ≡ place_of it (of_schema id cs)) hangs.listed is
    (once_listed it (of_schema id (children_of f)) few)
    ∙ only_at it (of_schema id (children_of f)) k few (found_listed id k it f found)
