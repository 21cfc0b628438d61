-- The first node of a schema node in a row of a store, and the row below it.
use Rattle.std.proofs.Common.{◌≡◌, ℕ, Bool, true, false, cond, eqb, List, ◌∷◌, map, filter, slice_get, Option, Some, None, refl, sym, ap, ◌∙◌, subst}
use Rattle.std.specs.Prelude.{option_and_then, option_map}
use Rattle.std.proofs.lemmas.Bool.{eqb-true}
use Rattle.std.proofs.lemmas.Option.{same_Some, none-some}
use Rattle.yspec.specs.Forest.{end, node}
use Rattle.yspec.specs.document.Document as document
use Rattle.yspec.specs.schema.Schema.{Schema, node_at}
use Rattle.yspec.specs.document.Document.{Stored, Tree, row_in}
use Rattle.yspec.specs.document.Instances.{container_row, implied_row}
use Rattle.yschema_model.specs.declared.node.SchemaId.{SchemaId}
use Rattle.ystore.specs.Held.{Label}
use Rattle.ystore_rows.specs.Rows.{Child}
use Rattle.ystore.specs.Store.{label_at}
use Rattle.ystore_rows.specs.declared.row.NodeId.{NodeId}
use Rattle.ystore_rows.specs.declared.row.Row.{Row}
use Rattle.ystore_rows.specs.declared.row.Row.TheVariants.{Below}
use Rattle.ystore.specs.declared.nodes.Nodes.{Nodes}
use Rattle.ystore_tree.specs.Hanging.{Numbered, Branches, stored_of, tree_of, child_of, children_of, Stands, Hangs}
use Rattle.ystore_tree.specs.Parts.{OnlyReads}
use Rattle.ystore_tree.proofs.HangingLemmas.{listed_below}
use Rattle.ystore_tree.proofs.PartLemmas.{children_read, stands_read, label_is}
use Rattle.ylive_facts.specs.Rows.{HangsIn, RowIs, listed_in, first_in, leaf_at}

-- ---- a row that is only read

pub hangs_read : (before after : Nodes) (above : Row) (f : Branches) → OnlyReads before after → Hangs before above f → Hangs after above f
hangs_read before after above f only hangs =
    record { listed = children_read before after above only ∙ hangs.listed; stands = stands_read before after above f only hangs.stands }

pub hangs_in_read : (before after : Nodes) (row : Option Row) (f : Branches) → OnlyReads before after → HangsIn before row f → HangsIn after row f
hangs_in_read before after None f only hangs = hangs
hangs_in_read before after (Some above) f only hangs = hangs_read before after above f only hangs

pub listed_read : (before after : Nodes) (row : Option Row) → OnlyReads before after → listed_in after row ≡ listed_in before row
listed_read before after None only = refl
listed_read before after (Some above) only = children_read before after above only

-- what hangs on a node that stands in a row
pub hangs_below : (nodes : Nodes) (above : Row) (n : Numbered) (below : Branches) (id : NodeId) → n.id ≡ id → Stands nodes above (node n below end) → Hangs nodes (Below id) below
hangs_below nodes above n below id same stands =
    subst (λ (i : NodeId). Hangs nodes (Below i) below) same (record { listed = listed_below nodes above n below stands.0; stands = stands.1 })

-- a node, as documents know it, by what is held of it
pub leaf_is : (nodes : Nodes) (above : Row) (n : Numbered) (below : Branches) (id : NodeId) → n.id ≡ id → Stands nodes above (node n below end)
    → leaf_at nodes n.schema id ≡ stored_of n
leaf_is nodes above n below id same stands =
    ap (λ (o : Option Label). let s : Stored = record { schema_number = n.schema.0; value = option_and_then (λ l. l.value) o } in s) (label_is nodes above n below id same stands)

-- ---- the first of a schema node

-- it stands in the row, and is the first in documents
pub record First (nodes : Nodes) (above : Row) (f : Branches) (id : SchemaId) (child : NodeId) : Type 0 where
  pub label : Numbered
  pub below : Branches
  pub is_id : label.id ≡ child
  pub is_schema : label.schema ≡ id
  pub stands : Stands nodes above (node label below end)
  pub is_stored : document.stored_in id.0 (tree_of f) ≡ Some (stored_of label)
  pub is_row : row_in id.0 (tree_of f) ≡ Some (tree_of below)

first-cons : (id : SchemaId) (c : Child) (cs : List Child) (b : Bool) → eqb c.0.0 id.0 ≡ b → first_in id (c ∷ cs) ≡ cond b (Some c.1) (first_in id cs)
first-cons id c cs true e = ap (λ b. slice_get (map (λ (c : Child). c.1) (cond b (c ∷ filter (λ (d : Child). eqb d.0.0 id.0) cs) (filter (λ (d : Child). eqb d.0.0 id.0) cs))) 0) e
first-cons id c cs false e = ap (λ b. slice_get (map (λ (c : Child). c.1) (cond b (c ∷ filter (λ (d : Child). eqb d.0.0 id.0) cs) (filter (λ (d : Child). eqb d.0.0 id.0) cs))) 0) e

first_stands : (nodes : Nodes) (above : Row) (f : Branches) (id : SchemaId) (child : NodeId) → Stands nodes above f → first_in id (children_of f) ≡ Some child
    → First nodes above f id child
first_stands nodes above end id child stands is = absurd (none-some child is)
first_stands nodes above (node n below after) id child stands is =
    by (eqb n.schema.0 id.0) refl (first_stands nodes above after id child stands.2)
  where
    by : (b : Bool) → eqb n.schema.0 id.0 ≡ b → (first_in id (children_of after) ≡ Some child → First nodes above after id child) → First nodes above (node n below after) id child
    by true e more =
        record {
          label = n;
          below = below;
          is_id = same_Some n.id child (sym (first-cons id (child_of n) (children_of after) true e) ∙ is);
          is_schema = ap (λ (j : ℕ). record { 0 = j }) (eqb-true n.schema.0 id.0 e);
          stands = (stands.0, stands.1, tt);
          is_stored = ap (λ b. cond b (Some (stored_of n)) (document.stored_in id.0 (tree_of after))) e;
          is_row = ap (λ b. cond b (Some (tree_of below)) (row_in id.0 (tree_of after))) e;
        }
    by false e more =
        let rest = more (sym (first-cons id (child_of n) (children_of after) false e) ∙ is) in
        record {
          label = rest.label;
          below = rest.below;
          is_id = rest.is_id;
          is_schema = rest.is_schema;
          stands = rest.stands;
          is_stored = ap (λ b. cond b (Some (stored_of n)) (document.stored_in id.0 (tree_of after))) e ∙ rest.is_stored;
          is_row = ap (λ b. cond b (Some (tree_of below)) (row_in id.0 (tree_of after))) e ∙ rest.is_row;
        }

none_first : (f : Branches) (id : SchemaId) → first_in id (children_of f) ≡ None → (document.stored_in id.0 (tree_of f) ≡ None) × (row_in id.0 (tree_of f) ≡ None)
none_first end id is = (refl, refl)
none_first (node n below after) id is = by (eqb n.schema.0 id.0) refl (none_first after id)
  where
    by : (b : Bool) → eqb n.schema.0 id.0 ≡ b
        → (first_in id (children_of after) ≡ None → (document.stored_in id.0 (tree_of after) ≡ None) × (row_in id.0 (tree_of after) ≡ None))
        → (document.stored_in id.0 (tree_of (node n below after)) ≡ None) × (row_in id.0 (tree_of (node n below after)) ≡ None)
    by true e more = absurd (none-some n.id (sym is ∙ first-cons id (child_of n) (children_of after) true e))
    by false e more =
        let rest = more (sym (first-cons id (child_of n) (children_of after) false e) ∙ is) in (
          ap (λ b. cond b (Some (stored_of n)) (document.stored_in id.0 (tree_of after))) e ∙ rest.0,
          ap (λ b. cond b (Some (tree_of below)) (row_in id.0 (tree_of after))) e ∙ rest.1,
        )

module _ (old mid : Nodes) (f : Branches) (id : SchemaId) (only : OnlyReads old mid) where
  found : (above : Row) (child : NodeId) → Hangs old above f → first_in id (listed_in old (Some above)) ≡ Some child → First mid above f id child
  found above child hangs is =
      first_stands mid above f id child (stands_read old mid above f only hangs.stands) (sym (ap (first_in id) hangs.listed) ∙ is)

  -- as documents know it
  pub leaf_found : (row : Option Row) (child : Option NodeId) (leaf : NodeId) → HangsIn old row f → child ≡ first_in id (listed_in old row) → child ≡ Some leaf
      → document.stored_in id.0 (tree_of f) ≡ Some (leaf_at mid id leaf)
  leaf_found None child leaf hangs is some = absurd (none-some leaf (sym is ∙ some))
  leaf_found (Some above) child leaf hangs is some =
      let at = found above leaf hangs (sym is ∙ some) in
      at.is_stored ∙ ap Some (subst (λ (s : SchemaId). stored_of at.label ≡ leaf_at mid s leaf) at.is_schema (sym (leaf_is mid above at.label at.below leaf at.is_id at.stands)))

  -- with the row below it
  pub row_found : (row : Option Row) (child : Option NodeId) (container : NodeId) → HangsIn old row f → child ≡ first_in id (listed_in old row) → child ≡ Some container
      → RowIs mid (Some (Some (Below container))) (row_in id.0 (tree_of f))
  row_found None child container hangs is some = absurd (none-some container (sym is ∙ some))
  row_found (Some above) child container hangs is some =
      let at = found above container hangs (sym is ∙ some) in
      (at.below, hangs_below mid above at.label at.below container at.is_id at.stands, at.is_row)

-- none is there
pub none_found : (nodes : Nodes) (row : Option Row) (f : Branches) (id : SchemaId) (child : Option NodeId) → HangsIn nodes row f → child ≡ first_in id (listed_in nodes row) → child ≡ None
    → (document.stored_in id.0 (tree_of f) ≡ None) × (row_in id.0 (tree_of f) ≡ None)
none_found nodes None f id child hangs is none = (ap (λ g. document.stored_in id.0 (tree_of g)) hangs, ap (λ g. row_in id.0 (tree_of g)) hangs)
none_found nodes (Some above) f id child hangs is none = none_first f id (sym (ap (first_in id) hangs.listed) ∙ (sym is ∙ none))

-- where no container is stored, the row is that of one that is implied
pub implied : (s : Schema) (number : ℕ) (stored : Option Tree) (b c : Bool) → stored ≡ None → b ≡ c
    → cond b (Some end) None ≡ option_and_then (λ n. implied_row n.kind) (node_at s number) → container_row s number stored ≡ cond c (Some end) None
implied s number stored b c none so is = ap (container_row s number) none ∙ (sym is ∙ ap (λ x. cond x (Some end) None) so)

-- the schema node that a node has
pub schema_is : (nodes : Nodes) (above : Row) (n : Numbered) (below : Branches) (id : NodeId) (of : SchemaId) → n.id ≡ id → Stands nodes above (node n below end)
    → Some of ≡ option_map (λ (l : Label). l.schema) (label_at nodes id) → n.schema ≡ of
schema_is nodes above n below id of same stands is =
    same_Some n.schema of (sym (is ∙ ap (option_map (λ (l : Label). l.schema)) (label_is nodes above n below id same stands)))

pub node_is : (nodes : Nodes) (above : Row) (n : Numbered) (below : Branches) (id : NodeId) (of : SchemaId) → n.id ≡ id → n.schema ≡ of → Stands nodes above (node n below end)
    → leaf_at nodes of id ≡ stored_of n
node_is nodes above n below id of same schema stands =
    subst (λ (s : SchemaId). leaf_at nodes s id ≡ stored_of n) schema (leaf_is nodes above n below id same stands)
