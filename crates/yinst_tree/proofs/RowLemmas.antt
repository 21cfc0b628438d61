-- Rows of stored nodes beside the rows of schema nodes and members that they come from.
use Rattle.std.proofs.Common.{◌≡◌, ℕ, Result, Ok, Err, OnOk, arith, ◌+◌, ◌≤◌, true, cond, List, [], ◌∷◌, ◌++◌, length, Some, refl, sym, ap, ap₂, ◌∙◌}
use Rattle.serde_json.specs.Data.{Data, Items, no_items}
use Rattle.serde_json.specs.View as json
use Rattle.serde_json.specs.declared.value.Value.{Value}
use Rattle.yspec.specs.Forest.{Forest, end, node, join, size}
use Rattle.yspec.specs.schema.Schema.{Schema, SchemaNode, is_many}
use Rattle.yspec.specs.document.Document as spec
use Rattle.yspec.specs.document.Document.{Tree}
use Rattle.yspec.specs.document.Reading.{stored_node, items_of, item_row, instance_row}
use Rattle.yschema_model.specs.View as schema_view
use Rattle.yschema_model.specs.declared.node.SchemaNode as code
use Rattle.yspec.proofs.ForestLemmas.{join_end, join_assoc}
use Rattle.yinst_tree.specs.View.{view, row_view}
use Rattle.yinst_tree.specs.Taking.{taken_in}
use Rattle.yinst_tree.specs.declared.tree.Stored.{Stored}

-- a row that has got one more node; `yinst` cites it too
pub join_last : (done : List Stored) (s : Stored) (l : spec.Stored) (below rest : Tree) → view s ≡ (l, below)
    → join (row_view (done ++ s ∷ [])) rest ≡ join (row_view done) (node l below rest)
join_last [] s l below rest is = ap (λ p. node p.0 p.1 rest) is
join_last (d ∷ done) s l below rest is = ap (node (view d).0 (view d).1) (join_last done s l below rest is)

pub row_pushed : (done later : List Stored) (s : Stored) (l : spec.Stored) (below : Tree) → later ≡ done ++ s ∷ [] → view s ≡ (l, below)
    → row_view later ≡ join (row_view done) (node l below end)
row_pushed done later s l below more is = ap row_view more ∙ (sym (join_end (row_view (done ++ s ∷ []))) ∙ join_last done s l below end is)

-- ---- instances

at_items : (n : SchemaNode) (inner : Data → Tree) (d : Data) (ds : Items) (done later : Tree) → is_many n.kind ≡ true → items_of d ≡ ds
    → later ≡ join done (item_row n inner ds) → later ≡ join done (instance_row n inner (Some d))
at_items n inner d ds done later many is put =
    put ∙ ap (join done) (ap (item_row n inner) (sym is) ∙ sym (ap (λ b. cond b (item_row n inner (items_of d)) (node (stored_node n d) (inner d) end)) many))

pub at_no_items : (n : SchemaNode) (inner : Data → Tree) (d : Data) (done : Tree) → is_many n.kind ≡ true → items_of d ≡ no_items
    → done ≡ join done (instance_row n inner (Some d))
at_no_items n inner d done many is = at_items n inner d no_items done done many is (sym (join_end done))

-- the next item
pub item_on : (n : SchemaNode) (inner : Data → Tree) (items left : List Value) (v : Value) (done later whole : Tree) → items ≡ v ∷ left
    → later ≡ join done (node (stored_node n (json.view v)) (inner (json.view v)) end)
    → join done (item_row n inner (json.items_view items)) ≡ whole → join later (item_row n inner (json.items_view left)) ≡ whole
item_on n inner items left v done later whole is put so =
    ap (λ t. join t (item_row n inner (json.items_view left))) put
    ∙ (join_assoc done (node (stored_node n (json.view v)) (inner (json.view v)) end) (item_row n inner (json.items_view left))
    ∙ (sym (ap (λ vs. join done (item_row n inner (json.items_view vs))) is) ∙ so))

none_left : (items : List Value) → length items ≡ 0 → items ≡ []
none_left [] is = refl
none_left (v ∷ items) is = let no : ⊥ = cc in absurd no

pub items_end : (n : SchemaNode) (inner : Data → Tree) (items : List Value) (count : ℕ) (done whole : Tree) → count ≡ 0 → count ≡ length items
    → join done (item_row n inner (json.items_view items)) ≡ whole → done ≡ whole
items_end n inner items count done whole ended is so =
    sym (join_end done) ∙ (sym (ap (λ vs. join done (item_row n inner (json.items_view vs))) (none_left items (sym is ∙ ended))) ∙ so)

-- a node that is stored, by its number, its label and the row of its children
pub seen_as : (s : Schema) (i : ℕ) (held : code.SchemaNode) (n : SchemaNode) (f g : Forest SchemaNode) (d : Data) (seen : Stored)
    → i ≡ n.number → schema_view.node_view n.number held ≡ n → f ≡ g
    → view seen ≡ (stored_node (schema_view.node_view i held) d, taken_in s (schema_view.node_view i held) f d)
    → view seen ≡ (stored_node n d, taken_in s n g d)
seen_as s i held n f g d seen number label row is =
    let label' = ap (λ j. schema_view.node_view j held) number ∙ label in
    let node_of : SchemaNode → Forest SchemaNode → spec.Stored × Tree =
    λ m h. (stored_node m d, taken_in s m h d) in
    is ∙ ap₂ node_of label' row

pub on_ok : {X E P Q : Type 0} (r : Result X E) → (P → Q) → OnOk r P → OnOk r Q
on_ok (Ok x) f h = f h
on_ok (Err e) f h = tt

-- the nodes after the first are fewer than all
pub fewer_after : {L : Type 0} (l : L) (below after before : Forest L) (k : ℕ) → before ≡ node l below after → size before ≤ k → size after ≤ k
fewer_after l below after before k is within = let same = ap size is in omega (arith, same, within)
