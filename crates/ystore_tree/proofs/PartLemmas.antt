-- A part that is copied from a store, child by child.
use Rattle.std.proofs.Common.{◌≡◌, ℕ, zero, suc, ◌+◌, ◌-◌, ◌*◌, ◌<◌, ◌≤◌, List, [], ◌∷◌, ◌++◌, length, drop, slice_get, Option, Some, None, option_map, refl, sym, ap, ap₂, ◌∙◌, arith, subst, length-drop}
use Rattle.std.specs.Prelude.{option_and_then}
use Rattle.std.specs.Option.{option_map_or}
use Rattle.std.proofs.lemmas.Option.{same_Some, none-some}
use Rattle.yspec.specs.Forest.{end, node, size, levels, join}
use Rattle.yspec.specs.types.Types.{Raw}
use Rattle.yspec.specs.document.Document.{Stored, Tree}
use Rattle.yspec.proofs.ForestLemmas.{join_end, join_assoc}
use Rattle.yschema_model.specs.declared.node.SchemaId.{SchemaId}
use Rattle.yinst_tree.specs.View.{view, row_view}
use Rattle.yinst_tree.specs.declared.tree.Stored as rust
use Rattle.yinst_tree.proofs.RowLemmas.{row_pushed}
use Rattle.ystore_rows.specs.Rows.{Child}
use Rattle.ystore.specs.Held.{Label, Shape}
use Rattle.ystore.specs.Store.{held_at, children_at, label_at, entry_at, node_count, reads, CountsOne}
use Rattle.ystore_rows.specs.declared.row.NodeId.{NodeId}
use Rattle.ystore_rows.specs.declared.row.Row.{Row}
use Rattle.ystore_rows.specs.declared.row.Row.TheVariants.{Top, Below}
use Rattle.ystore.specs.declared.nodes.Nodes.{Nodes}
use Rattle.ystore_tree.specs.Hanging.{Numbered, Branches, stored_of, tree_of, child_of, children_of, Stands}
use Rattle.ystore_tree.specs.Copies.{ids_of}
use Rattle.ystore_tree.specs.Parts.{OnlyReads, CopiesBut}
use Rattle.ystore_tree.proofs.HangingLemmas.{kept, listed_below}
use Rattle.ystore_tree.proofs.CopyLemmas.{label_shape}
use Rattle.ystore_tree.proofs.GrowLemmas.{append_on, append_none, ids_node}

-- ---- reads

pub reads_nothing : (nodes : Nodes) → OnlyReads nodes nodes
reads_nothing nodes = record { held = λ above. refl; entries = λ key. refl; node_count = refl }

pub reads_on : (first second third : Nodes) → OnlyReads first second → OnlyReads second third → OnlyReads first third
reads_on first second third a b =
    record { held = λ above. b.held above ∙ a.held above; entries = λ key. b.entries key ∙ a.entries key; node_count = b.node_count ∙ a.node_count }

pub one_read : (before after : Nodes) → CountsOne before after → OnlyReads before after
one_read before after counts =
    record {
      held = λ above. ap (λ nodes. held_at nodes above) counts.kept ∙ by above;
      entries = λ key. ap (λ nodes. entry_at nodes key) counts.kept;
      node_count = ap node_count counts.kept;
    }
  where
    by : (above : Row) → held_at (record before { count = after.count }) above ≡ held_at before above
    by Top = refl
    by (Below id) = refl

pub stands_read : (before after : Nodes) (above : Row) (f : Branches) → OnlyReads before after → Stands before above f → Stands after above f
stands_read before after above f only stands = kept before after above f (λ id more. ap (option_map (λ held. held.shape)) (only.held (Below id))) stands

pub children_read : (before after : Nodes) (above : Row) → OnlyReads before after → children_at after above ≡ children_at before above
children_read before after above only = ap (λ o. option_map_or (λ held. held.shape.children) o []) (only.held above)

-- ---- labels

pub label_is : (nodes : Nodes) (above : Row) (n : Numbered) (below : Branches) (id : NodeId) → n.id ≡ id → Stands nodes above (node n below end)
    → label_at nodes id ≡ Some (record { schema = n.schema; value = n.value; parent = above })
label_is nodes above n below id same stands =
    subst (λ (i : NodeId). label_at nodes i ≡ Some (record { schema = n.schema; value = n.value; parent = above })) same
    (label_shape (held_at nodes (Below n.id)) ∙ ap (λ o. option_map_or (λ (s : Shape). s.label) o None) stands.0)

pub is_there : (nodes : Nodes) (above : Row) (n : Numbered) (below : Branches) (id : NodeId) → n.id ≡ id → Stands nodes above (node n below end)
    → None ≡ option_map (λ (l : Label). l.schema) (label_at nodes id) → ⊥
is_there nodes above n below id same stands none = none-some n.schema (none ∙ ap (option_map (λ (l : Label). l.schema)) (label_is nodes above n below id same stands))

children_are : (nodes : Nodes) (above : Row) (n : Numbered) (below : Branches) (id : NodeId) → n.id ≡ id → Stands nodes above (node n below end)
    → children_at nodes (Below id) ≡ children_of below
children_are nodes above n below id same stands =
    subst (λ (i : NodeId). children_at nodes (Below i) ≡ children_of below) same (listed_below nodes above n below stands.0)

-- ---- one child

slice_of : (cs : List Child) (k : ℕ) (x : Child) (xs : List Child) → drop k cs ≡ x ∷ xs → slice_get cs k ≡ Some x
slice_of [] zero x xs e = absurd (omega (arith, ap length e))
slice_of [] (suc k) x xs e = absurd (omega (arith, ap length e))
slice_of (c ∷ cs) zero x xs e = ap (λ ds. slice_get ds 0) e
slice_of (c ∷ cs) (suc k) x xs e = slice_of cs k x xs e

pub child_found : (nodes : Nodes) (above : NodeId) (place : ℕ) (n : Numbered) (below after : Branches) (found : Option NodeId)
    → found ≡ option_map (λ (c : Child). c.1) (slice_get (children_at nodes (Below above)) place)
    → drop place (children_at nodes (Below above)) ≡ children_of (node n below after) → found ≡ Some n.id
child_found nodes above place n below after found is listed =
    is ∙ ap (option_map (λ (c : Child). c.1)) (slice_of (children_at nodes (Below above)) place (child_of n) (children_of after) listed)

pub child_copied : (n : Numbered) (below : Branches) (old mid new : Nodes) (first all : List rust.Stored) (had has : List NodeId)
    → CountsOne old mid → CopiesBut 1 n below mid new first all had has → CopiesBut 0 n below old new first all had has
child_copied n below old mid new first all had has counts copies =
    record {
      copied = copies.copied;
      numbers = copies.numbers;
      reads = let one = counts.counted in let more = copies.reads in omega (arith, one, more);
    }

-- ---- a row, child by child

-- what was copied of the row below a node with what is left of it
pub record SoFar (n : Numbered) (below : Branches) (place depth : ℕ) (start now : Nodes) (copy : List rust.Stored) (had has : List NodeId) : Type 0 where
  pub rest : Branches
  pub listed : drop place (children_of below) ≡ children_of rest
  pub stands : Stands start (Below n.id) rest
  pub deep : suc (levels rest) ≤ depth
  pub copied : join (row_view copy) (tree_of rest) ≡ tree_of below
  pub numbers : has ++ ids_of rest ≡ had ++ n.id ∷ ids_of below
  pub reads : reads now + 4 * size rest ≡ reads start + 3 + 4 * size below

pub begins : (above : Row) (n : Numbered) (below : Branches) (id : NodeId) (depth : ℕ) (start now : Nodes) (copy : List rust.Stored) (had has : List NodeId)
    → n.id ≡ id → Stands start above (node n below end) → levels (node n below end) ≤ depth
    → copy ≡ [] → has ≡ had ++ id ∷ [] → reads now ≡ reads start + 3 → SoFar n below 0 depth start now copy had has
begins above n below id depth start now copy had has same stands within none numbers count =
    record {
      rest = below;
      listed = refl;
      stands = stands.1;
      deep = omega (arith, within);
      copied = ap (λ c. join (row_view c) (tree_of below)) none;
      numbers = ap (λ is. is ++ ids_of below) (numbers ∙ ap (λ (i : NodeId). had ++ i ∷ []) (sym same)) ∙ append_on had (n.id ∷ []) (ids_of below);
      reads = omega (arith, count);
    }

drop_next : (cs : List Child) (k : ℕ) (x : Child) (xs : List Child) → drop k cs ≡ x ∷ xs → drop (suc k) cs ≡ xs
drop_next [] zero x xs e = absurd (omega (arith, ap length e))
drop_next [] (suc k) x xs e = absurd (omega (arith, ap length e))
drop_next (c ∷ cs) zero x xs e = ap (drop 1) e
drop_next (c ∷ cs) (suc k) x xs e = drop_next cs k x xs e

module _ (above : Row) (n : Numbered) (below : Branches) (id : NodeId) (place depth : ℕ) (start now next : Nodes) (copy more : List rust.Stored) (had has gets : List NodeId)
    (same : n.id ≡ id) (whole : Stands start above (node n below end)) (only : OnlyReads start now) (within : place < length (children_of below))
    (child : (m : Numbered) (under after : Branches) → drop place (children_at now (Below id)) ≡ children_of (node m under after)
    → Stands now (Below id) (node m under end) → levels (node m under end) ≤ depth - 1 → CopiesBut 0 m under now next copy more has gets) where
  goes_from : (rest : Branches) → drop place (children_of below) ≡ children_of rest → Stands start (Below n.id) rest → suc (levels rest) ≤ depth
      → join (row_view copy) (tree_of rest) ≡ tree_of below → has ++ ids_of rest ≡ had ++ n.id ∷ ids_of below
      → reads now + 4 * size rest ≡ reads start + 3 + 4 * size below → SoFar n below (place + 1) depth start next more had gets
  goes_from end listed stands deep copied numbers count =
      absurd (let none = ap length listed in let long = length-drop place (children_of below) in omega (arith, none, long, within))
  goes_from (node m under after) listed stands deep copied numbers count =
      let made = child m under after
      (ap (drop place) (children_read start now (Below id) only ∙ children_are start above n below id same whole) ∙ listed)
      (subst (λ (i : NodeId). Stands now (Below i) (node m under end)) same (stands_read start now (Below n.id) (node m under end) only (stands.0, stands.1, tt)))
      (omega (arith, deep)) in
      let e : place + 1 ≡ suc place = omega arith in
      record {
        rest = after;
        listed = ap (λ k. drop k (children_of below)) e ∙ drop_next (children_of below) place (child_of m) (children_of after) listed;
        stands = stands.2;
        deep = omega (arith, deep);
        copied = ap (λ t. join t (tree_of after)) made.copied
            ∙ (join_assoc (row_view copy) (node (stored_of m) (tree_of under) end) (tree_of after) ∙ copied);
        numbers = ap (λ is. is ++ ids_of after) made.numbers
            ∙ (append_on has (m.id ∷ ids_of under) (ids_of after)
            ∙ (ap (λ is. has ++ is) (sym (ids_node m under after)) ∙ numbers));
        reads = let more = made.reads in omega (arith, more, count);
      }

  pub goes_on : SoFar n below place depth start now copy had has → SoFar n below (place + 1) depth start next more had gets
  goes_on so = goes_from so.rest so.listed so.stands so.deep so.copied so.numbers so.reads

-- the node itself, once all its children are copied
pub ends : (above : Row) (n : Numbered) (below : Branches) (id : NodeId) (place depth count : ℕ) (start read now : Nodes) (schema : SchemaId) (value : Option Raw) (copy first all : List rust.Stored)
    (s : rust.Stored) (had has : List NodeId) → n.id ≡ id → Stands start above (node n below end) → OnlyReads start read
    → count ≡ length (children_at read (Below id)) → count ≤ place → SoFar n below place depth start now copy had has
    → Some schema ≡ option_map (λ (l : Label). l.schema) (label_at start id) → value ≡ n.value
    → (view s).0 ≡ record { schema_number = schema.0; value = value } → (view s).1 ≡ row_view copy → all ≡ first ++ s ∷ []
    → CopiesBut 1 n below start now first all had has
ends above n below id place depth count start read now schema value copy first all s had has same whole only counts past so schema_is value_is label under put =
    by so.rest so.listed so.copied so.numbers so.reads
  where
    by : (rest : Branches) → drop place (children_of below) ≡ children_of rest → join (row_view copy) (tree_of rest) ≡ tree_of below
        → has ++ ids_of rest ≡ had ++ n.id ∷ ids_of below → reads now + 4 * size rest ≡ reads start + 3 + 4 * size below → CopiesBut 1 n below start now first all had has
    by (node m b after) listed copied numbers count =
        absurd (let some = ap length listed in let long = length-drop place (children_of below) in
        let all = ap length (children_read start read (Below id) only ∙ children_are start above n below id same whole) in omega (arith, some, long, all, counts, past))
    by end listed copied numbers count =
        let schema_same : schema ≡ n.schema =
        same_Some schema n.schema (schema_is ∙ ap (option_map (λ (l : Label). l.schema)) (label_is start above n below id same whole)) in
        record {
          copied = row_pushed first all s (stored_of n) (tree_of below) put
              (ap₂ (λ (l : Stored) (t : Tree). (l, t)) (label ∙ ap₂ (λ (i : SchemaId) (v : Option Raw). record { schema_number = i.0; value = v }) schema_same value_is)
              (under ∙ (sym (join_end (row_view copy)) ∙ copied)));
          numbers = sym (append_none has) ∙ numbers;
          reads = omega (arith, count);
        }

pub value_same : (start read : Nodes) (above : Row) (n : Numbered) (below : Branches) (id : NodeId) (value : Option Raw) → n.id ≡ id → Stands start above (node n below end)
    → OnlyReads start read → value ≡ option_and_then (λ (l : Label). l.value) (label_at read id) → value ≡ n.value
value_same start read above n below id value same whole only is =
    is ∙ ap (option_and_then (λ (l : Label). l.value)) (label_is read above n below id same (stands_read start read above (node n below end) only whole))

pub within_row : (above : Row) (n : Numbered) (below : Branches) (id : NodeId) (place count : ℕ) (start read : Nodes) → n.id ≡ id → Stands start above (node n below end)
    → OnlyReads start read → count ≡ length (children_at read (Below id)) → place < count → place < length (children_of below)
within_row above n below id place count start read same whole only counts less =
    let all = ap length (children_read start read (Below id) only ∙ children_are start above n below id same whole) in
    omega (arith, all, counts, less)

pub label_read : (before after : Nodes) (id : NodeId) → OnlyReads before after → label_at after id ≡ label_at before id
label_read before after id only = ap (λ o. option_map_or (λ held. held.shape.label) o None) (only.held (Below id))
