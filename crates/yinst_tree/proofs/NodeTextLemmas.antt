-- What is written for one stored node with all that stands below it.
use Rattle.std.proofs.Common.{◌≡◌, ℕ, zero, suc, ◌+◌, ◌≤◌, true, false, cond, List, [], ◌∷◌, length, take, drop, Option, Some, None, refl, sym, ap, subst, ◌∙◌, arith}
use Rattle.std.specs.Option.{option_map_or}
use Rattle.std.proofs.Math.Path.{fun_ext}
use Rattle.std.proofs.Common.{length-take, length-drop}
use Rattle.serde_json.specs.Data.{Data, null, object, Members, no_members}
use Rattle.serde_json.specs.Written.{has_float, members_have_float, compact_text}
use Rattle.yspec.specs.Forest.{Forest, end, node}
use Rattle.yspec.specs.schema.Schema.{Schema, SchemaNode, SchemaModule, container, current, is_data, has_value, written_name, node_at, children_of, form_in}
use Rattle.yspec.specs.document.Document as document
use Rattle.yspec.specs.document.Document.{Tree, instances}
use Rattle.yspec.specs.document.Fitting.{IsNumbered}
use Rattle.yspec.specs.document.Sorting.{IsSorted}
use Rattle.yspec.specs.document.Writing.{leaf_data, written_node, with_instances, row_members}
use Rattle.yspec.proofs.DocumentProofs.WrittenShapeLemmas.{no_fractions, first_whole, node_whole}
use Rattle.yschema_model.specs.declared.children.Slot.{Slot}
use Rattle.yschema_model.specs.Layout.{forest_within}
use Rattle.yschema_model.specs.View as schema_view
use Rattle.yschema_model.specs.declared.children.Children.{Children}
use Rattle.yschema_model.proofs.QueryLemmas.{size_of_forest}
use Rattle.yinst_tree.specs.Walk.{members_in}
use Rattle.yinst_tree.specs.Written.{written_stored, stored_text}
use Rattle.yinst_tree.proofs.WalkLemmas.{walked_on}

-- ---- the nodes that lie in slots count up from the number of the first

forest_numbered : (n k : ℕ) (slots : List Slot) → length slots ≤ n → IsNumbered k (forest_within n k slots)
unfolding forest_within
forest_numbered zero k slots h = tt
forest_numbered (suc n) k [] h = tt
forest_numbered (suc n) k (r ∷ slots) h =
    let inner = take r.below slots in
    let few : length inner ≤ n = omega (arith, h, length-take r.below slots) in
    let more : length (drop r.below slots) ≤ n = omega (arith, h, length-drop r.below slots) in (
      refl,
      forest_numbered n (k + 1) inner few,
      subst (λ m. IsNumbered (k + 1 + m) (forest_within n (k + 1 + length inner) (drop r.below slots))) (sym (size_of_forest n (k + 1) inner few))
          (forest_numbered n (k + 1 + length inner) (drop r.below slots) more),
    )

numbered_children : (c : Children) → IsNumbered c.number (schema_view.row_view c)
numbered_children c = forest_numbered (length c.slots.now) c.number c.slots.now (omega arith)

-- ---- nothing that is written has a fraction

-- what is written of a row hangs on the modules alone
of_modules : (modules : List SchemaModule) (some others : Forest SchemaNode) (parent : Option ℕ) (f : Forest SchemaNode) (t : Tree) (found : Members)
    → row_members (record { modules = modules; nodes = some }) parent f t found ≡ row_members (record { modules = modules; nodes = others }) parent f t found
unfolding row_members
of_modules modules some others parent end t found = refl
of_modules modules some others parent (node n below after) t found =
    let one : Schema = record { modules = modules; nodes = some } in
    let other : Schema = record { modules = modules; nodes = others } in
    let here : (Tree → Members) → Members → Members = λ inner inside.
    row_members one parent after t (cond (is_data n.kind) (with_instances (written_name one parent n) n.kind inner (instances n.number t) found) inside) in
    ap (λ inner. here inner (row_members one parent below t found)) (fun_ext (λ inner. of_modules modules some others (Some n.module_number) below inner no_members))
    ∙ (ap (here (λ inner. row_members other (Some n.module_number) below inner no_members)) (of_modules modules some others parent below t found)
    ∙ of_modules modules some others parent after t _)

above : ℕ → SchemaNode
above m = record { number = 0; module_number = m; name = []; config = true; distinct_items = true; status = current; kind = container true }

-- so is a row below a node of a module, since it stands in a document
rows_whole : (s : Schema) (m : ℕ) (f : Forest SchemaNode) (t : Tree) → members_have_float (row_members s (Some m) f t no_members) ≡ false
unfolding row_members above
rows_whole s m f t =
    let nodes = node (above m) f end in
    ap members_have_float (of_modules s.modules s.nodes nodes (Some m) f t no_members)
    ∙ first_whole (members_have_float (row_members (record { modules = s.modules; nodes = nodes }) (Some m) f t no_members)) false
    (no_fractions (record { modules = s.modules; nodes = nodes }) (node (record { schema_number = 0; value = None }) t end))

stored_whole : (s : Schema) (st : document.Stored) (below : Tree) → has_float (written_stored s st below) ≡ false
stored_whole s st below = at (node_at s st.schema_number)
  where
    at : (n : Option SchemaNode) → has_float (option_map_or (λ n. written_node n.kind st.value (row_members s (Some n.module_number) (children_of s st.schema_number) below no_members)) n null) ≡ false
    at None = refl
    at (Some n) = node_whole (has_value n.kind) (form_in n.kind) st.value _ (rows_whole s n.module_number (children_of s st.schema_number) below)

pub whole_text : (s : Schema) (st : document.Stored) (below : Tree) (d : Data) (bytes : List ℕ) → (IsSorted below → d ≡ written_stored s st below)
    → (has_float d ≡ false → bytes ≡ compact_text d) → IsSorted below → bytes ≡ stored_text s st below
whole_text s st below d bytes is so sorted = so (ap has_float (is sorted) ∙ stored_whole s st below) ∙ ap compact_text (is sorted)

-- ---- the value

-- of a node that has no value
pub inner_written : (s : Schema) (st : document.Stored) (below row : Tree) (n : SchemaNode) (children : Children) (written : Members) → node_at s st.schema_number ≡ Some n → has_value n.kind ≡ false
    → schema_view.row_view children ≡ children_of s st.schema_number → row ≡ below → written ≡ members_in s (Some n.module_number) (schema_view.row_view children) row
    → IsSorted below → object written ≡ written_stored s st below
inner_written s st below row n children ms is bare are here put_in sorted =
    let walk : Members = members_in s (Some n.module_number) (schema_view.row_view children) below in
    let whole : walk ≡ row_members s (Some n.module_number) (schema_view.row_view children) below no_members =
    (walked_on s (Some n.module_number) (schema_view.row_view children) children.number below below no_members (numbered_children children) sorted (λ m from. refl)).0 in
    let written : Option SchemaNode → Data = λ o. option_map_or (λ n. written_node n.kind st.value
    (row_members s (Some n.module_number) (children_of s st.schema_number) below no_members)) o null in
    ap object (put_in ∙ (ap (members_in s (Some n.module_number) (schema_view.row_view children)) here
    ∙ (whole ∙ ap (λ f. row_members s (Some n.module_number) f below no_members) are)))
    ∙ sym (ap written is
    ∙ ap (λ b. cond b (leaf_data (form_in n.kind) st.value) (object (row_members s (Some n.module_number) (children_of s st.schema_number) below no_members))) bare)
