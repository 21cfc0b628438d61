-- Edits of a document in a store come to what the definition gives.
use Rattle.std.proofs.Common.{◌≡◌, ℕ, Bool, false, List, [], length, refl, sym, ap, subst, ◌∙◌, ltb, arith}
use Rattle.std.specs.Prelude.{◌≤◌, not, ◌&&◌, Option, Some, None, Result, Ok, Err, nat_lt, if◌then◌else◌}
use Rattle.yspec.specs.Forest.{end, node, join, size}
use Rattle.yspec.specs.text.Text.{Text}
use Rattle.yspec.specs.schema.Schema.{Schema}
use Rattle.yspec.specs.edit.Edit.{edit_at, instance_index}
use Rattle.yspec.specs.Results.{Fails, ◌>>=◌}
use Rattle.yspec.specs.document.Document.{Step, Tree, instances_in}
use Rattle.yspec.specs.edit.Editing as spec
use Rattle.yinst_path.specs.Applying.{told_by}
use Rattle.yinst_path.specs.Binding.{node_of}
use Rattle.yinst_path.specs.declared.edit.EditFault.{EditFault}
use Rattle.yinst_path.specs.declared.edit.EditFault.TheVariants.{Refused, Memory}
use Rattle.ystore_rows.specs.declared.row.Row.{Row}
use Rattle.ystore_rows.specs.declared.row.Row.TheVariants.{Top}
use Rattle.ystore.specs.declared.nodes.Nodes.{Nodes}
use Rattle.yschema_model.specs.declared.node.SchemaId.{SchemaId}
use Rattle.yinst.proofs.LocatingLemmas.{number_is}
use Rattle.ystore_rows.specs.Rows.{of_schema}
use Rattle.ystore.specs.Store.{children_at, node_count}
use Rattle.ystore_rows.specs.declared.row.NodeId.{NodeId}
use Rattle.ystore_tree.specs.Hanging.{Branches, Hangs, Numbered, Stands, tree_of}
use Rattle.ystore_tree.specs.Copies.{ids_of}
use Rattle.ystore_tree.specs.Parts.{OnlyReads}
use Rattle.ystore_tree.proofs.FoundLemmas.{counted_at}
use Rattle.ystore_tree.proofs.FrameLemmas.{keeps_same}
use Rattle.ystore_tree.proofs.HangingLemmas.{stands_second, weigh_join, weigh_around, size_weigh}
use Rattle.ystore_tree.specs.Ways.{Found, around}
use Rattle.ylive_edit.specs.Places.{Amends, HoldsTold, IsAt, IsPart, IsSomewhere, Shows}
use Rattle.ylive_edit.proofs.BesideLemmas.{told_read}
use Rattle.ylive_edit.specs.Locating.{Locates}
use Rattle.ylive_edit.specs.declared.locating.Place.{Place}
use Rattle.ylive_edit.proofs.LocatingLemmas.{at_read, hangs_at, same_shapes}

pub there_is : (many kind : Bool) (count k : ℕ) → many ≡ false → many ≡ kind → count ≡ k → ltb 0 count ≡ (not kind && nat_lt 0 k)
there_is many kind count k none is same = ap (ltb 0) same ∙ ap (λ b. not b && nat_lt 0 k) (sym none ∙ is)

-- a document that stands so is held
pub holds_at : (s : Schema) (nodes : Nodes) (tree : Tree) (steps : List Step) (above : Row) (f : Branches) → IsAt s nodes tree steps above f → HoldsTold s nodes tree
holds_at s nodes tree steps above f at = record { branches = around at.way f; is_tree = at.is_tree; keeps = at.keeps; told = at.told }

-- and hangs there
pub shows_at : (s : Schema) (nodes : Nodes) (tree : Tree) (steps : List Step) (above : Row) (f : Branches) → IsAt s nodes tree steps above f → Shows nodes tree
shows_at s nodes tree steps above f at =
    let all = at.keeps.all in
    record { branches = around at.way f; is_tree = at.is_tree; hangs = at.keeps.hangs; within = omega (arith, all) }

-- a fault that tells the definition's refusal, or want of memory
pub amends_fault : (X : Type 0) (s : Schema) (nodes : Nodes) (tree : Tree) (answer : Result Tree spec.EditRefusal) (fault : EditFault) → Fails (told_by fault) answer
    → HoldsTold s nodes tree → Shows nodes tree → Amends {X = X} s tree answer nodes (Err fault)
amends_fault X s nodes tree answer (Refused code doc) fails holds there = (fails, holds)
amends_fault X s nodes tree answer Memory fails holds there = there

pub fails_on : {A B : Type 0} (told : Option spec.EditRefusal) (answer : Result A spec.EditRefusal) (next : A → Result B spec.EditRefusal) → Fails told answer → Fails told (answer >>= next)
fails_on (Some refusal) answer next fails = ap (λ a. a >>= next) fails
fails_on None answer next fails = tt

pub fails_same : {A : Type 0} (told : Option spec.EditRefusal) (a b : Result A spec.EditRefusal) → a ≡ b → Fails told b → Fails told a
fails_same told a b is fails = subst (Fails told) (sym is) fails

-- no path leads there
pub amends_unplaced : (X : Type 0) (s : Schema) (nodes : Nodes) (tree : Tree) (answer : Result spec.Target spec.EditRefusal) (next : spec.Target → Result Tree spec.EditRefusal) (fault : EditFault)
    → Locates s tree [] answer nodes (Err fault) → HoldsTold s nodes tree → Amends {X = X} s tree (answer >>= next) nodes (Err fault)
amends_unplaced X s nodes tree answer next (Refused code doc) e holds = (ap (λ a. a >>= next) e, holds)
amends_unplaced X s nodes tree answer next Memory e holds =
    let all = holds.keeps.all in
    record { branches = holds.branches; is_tree = holds.is_tree; hangs = holds.keeps.hangs; within = omega (arith, all) }

pub holds_read : (s : Schema) (before after : Nodes) (tree : Tree) → OnlyReads before after → HoldsTold s before tree → HoldsTold s after tree
holds_read s before after tree only holds = record {
  branches = holds.branches;
  is_tree = holds.is_tree;
  keeps = keeps_same before after (same_shapes before after only) holds.branches Top end holds.keeps;
  told = told_read s before after holds.branches only holds.told;
}

-- ---- parts

-- a node that is found stands there, and all below it is in the store
pub found_there : (s : Schema) (nodes : Nodes) (tree : Tree) (steps : List Step) (above : Row) (f : Branches) (step : Step) (schema : SchemaId) (id : NodeId)
    → IsAt s nodes tree steps above f → (found : Found schema (instance_index step) id f)
    → Stands nodes above (node found.frame.label found.below end) × (size (node found.frame.label found.below end) ≤ node_count nodes)
found_there s nodes tree steps above f step schema id at found =
    let n = found.frame.label in
    let below = found.below in
    let here = hangs_at s nodes tree steps above f at in
    let stands = stands_second nodes above found.frame.before (node n below found.frame.after) (subst (Stands nodes above) found.is_row here.stands) in
    let whole : size f ≡ size (join found.frame.before (node n below found.frame.after)) = ap size found.is_row in
    let parts = weigh_join (λ _. 1) found.frame.before (node n below found.frame.after) in
    let w1 = size_weigh (join found.frame.before (node n below found.frame.after)) in
    let w2 = size_weigh below in
    let w3 = size_weigh (around at.way f) in
    let w4 = size_weigh f in
    let out = weigh_around (λ _. 1) at.way f in
    let all = at.keeps.all in
    ((stands.0, stands.1, tt), omega (arith, whole, parts, w1, w2, w3, w4, out, all))

-- the part that it is, by its numbers
pub part_at : (s : Schema) (nodes : Nodes) (tree : Tree) (steps : List Step) (above : Row) (f : Branches) (step : Step) (schema : SchemaId) (id : NodeId) (numbers : List NodeId)
    → IsAt s nodes tree steps above f → (found : Found schema (instance_index step) id f) → schema.0 ≡ step.schema_number
    → ((row : Row) (n : Numbered) (below : Branches) → n.id ≡ id → Stands nodes row (node n below end) → size (node n below end) ≤ node_count nodes
    → numbers ≡ ids_of (node n below end)) → IsPart step schema id numbers f
part_at s nodes tree steps above f step schema id numbers at found same listed =
    let there = found_there s nodes tree steps above f step schema id at found in
    record { found = found; is_schema = same; are_numbers = listed above found.frame.label found.below found.is_id there.0 there.1 }

pub part_of : (step : Step) (schema : SchemaId) (id : NodeId) (f : Branches) → (found : Found schema (instance_index step) id f) → schema.0 ≡ step.schema_number
    → IsPart step schema id (ids_of (node found.frame.label found.below end)) f
part_of step schema id f found same = record { found = found; is_schema = same; are_numbers = refl }

-- where a path leads there is a row
pub somewhere_placed : (s : Schema) (nodes : Nodes) (tree : Tree) (answer : Result spec.Target spec.EditRefusal) (place : Place) → Locates s tree [] answer nodes (Ok place)
    → IsSomewhere s nodes place.above
somewhere_placed s nodes tree answer place placed = record { tree = tree; steps = placed.0; f = placed.1; at = placed.2 }

pub somewhere_read : (s : Schema) (before after : Nodes) (above : Row) → OnlyReads before after → IsSomewhere s before above → IsSomewhere s after above
somewhere_read s before after above only there =
    record { tree = there.tree; steps = there.steps; f = there.f; at = at_read s before after there.tree there.steps above there.f there.at only }

-- ---- answers

pub removed_is : (s : Schema) (tree : Tree) (t : spec.Target) (step : Step) → spec.last_meant s t ≡ Ok step → spec.removed s tree t ≡ Ok (edit_at t.above (spec.without step) tree)
removed_is s tree t step meant = ap (λ (a : Result Step spec.EditRefusal). a >>= (λ (st : Step). Ok (edit_at t.above (spec.without st) tree))) meant

pub replaced_is : (s : Schema) (tree : Tree) (text : Text) (t : spec.Target) (step : Step) (b : spec.Branch) → spec.last_meant s t ≡ Ok step
    → spec.branch_of s t.last.schema_node.number text ≡ Ok b → spec.replaced s tree text t ≡ spec.within_limit (edit_at t.above (spec.with_instead step b) tree)
replaced_is s tree text t step b meant value =
    ap (λ (a : Result Step spec.EditRefusal). a >>= (λ (st : Step). spec.branch_of s t.last.schema_node.number text
    >>= (λ (c : spec.Branch). spec.within_limit (edit_at t.above (spec.with_instead st c) tree)))) meant
    ∙ ap (λ (a : Result spec.Branch spec.EditRefusal). a >>= (λ (c : spec.Branch). spec.within_limit (edit_at t.above (spec.with_instead step c) tree))) value

pub created_is : (s : Schema) (tree : Tree) (text : Text) (t : spec.Target) (b : spec.Branch) → spec.is_there t ≡ false
    → spec.branch_of s t.last.schema_node.number text ≡ Ok b → spec.created s tree text t ≡ spec.within_limit (edit_at t.above (spec.with_branch b) tree)
created_is s tree text t b none value =
    ap (λ (there : Bool). if there then spec.refused 8 else (spec.branch_of s t.last.schema_node.number text
    >>= (λ (c : spec.Branch). spec.within_limit (edit_at t.above (spec.with_branch c) tree)))) none
    ∙ ap (λ (a : Result spec.Branch spec.EditRefusal). a >>= (λ (c : spec.Branch). spec.within_limit (edit_at t.above (spec.with_branch c) tree))) value

-- the nodes of a row that a position counts are those of its schema node
pub past_is : (s : Schema) (nodes : Nodes) (above : Row) (f : Branches) (id : SchemaId) (count position : ℕ) (past : Bool) → Hangs nodes above f
    → count ≡ length (of_schema id (children_at nodes above)) → ltb count position ≡ past
    → nat_lt (instances_in (tree_of f) (node_of s id.0).number) position ≡ past
past_is s nodes above f id count position past hangs counted is =
    ap (λ (k : ℕ). ltb k position) (ap (instances_in (tree_of f)) (number_is s id.0) ∙ (sym (counted_at nodes above f id hangs) ∙ sym counted)) ∙ is

-- what is moved goes to a position of its list, if it is one
pub moved_is : (s : Schema) (tree : Tree) (position : ℕ) (t : spec.Target) (step : Step) (past : Bool) → spec.last_meant s t ≡ Ok step
    → nat_lt (instances_in t.row t.last.schema_node.number) position ≡ past
    → spec.moved s tree position t ≡ (if past then spec.refused 5 else Ok (edit_at t.above (spec.with_moved step position) tree))
moved_is s tree position t step past meant is =
    ap (λ (a : Result Step spec.EditRefusal). a >>= (λ (st : Step). if nat_lt (instances_in t.row t.last.schema_node.number) position then spec.refused {A = Tree} 5
    else Ok (edit_at t.above (spec.with_moved st position) tree))) meant
    ∙ ap (λ (b : Bool). if b then spec.refused {A = Tree} 5 else Ok (edit_at t.above (spec.with_moved step position) tree)) is
