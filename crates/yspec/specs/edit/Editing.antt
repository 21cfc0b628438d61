-- What an edit does to a document, or why it is refused.
use Rattle.std.specs.Prelude.{⊤, ℕ, zero, suc, ◌+◌, ◌-◌, ◌==◌, ◌||◌, ◌++◌, ◌&&◌, not, Bool, true, false, List, [], ◌∷◌, length, find, Option, Some, None, option_map, option_and_then, Result, Ok, Err, if◌then◌else◌, nat_lt}
use Rattle.std.specs.List.{list_all, list_any}
use Rattle.std.specs.Option.{option_map_or}
use Rattle.serde_json.specs.Data.{Data}
use Rattle.yspec.specs.Forest.{Forest, end, node, size, change_nth}
use Rattle.yspec.specs.Results.{◌>>=◌}
use Rattle.yspec.specs.text.Text.{Text, is_text}
use Rattle.yspec.specs.types.Values.{canonical}
use Rattle.yspec.specs.schema.Schema.{Schema, SchemaNode, Kind, container, leaf, leaf_list, list, is_many, type_in, keys_in, node_at, children_of}
use Rattle.yspec.specs.document.Document.{Stored, Tree, Step, step_to, step_at, instances_in, stored_in, document_limit}
use Rattle.yspec.specs.document.Reading.{Named, child, other_form, unknown, named, instance_visits, first_wrong, json_of, stored_node, stored_rows, members_of}
use Rattle.yspec.specs.document.Instances.{value_of}
use Rattle.yspec.specs.edit.Edit.{edit_at, is_of, instance_index}
use Rattle.yspec.specs.edit.EditText.{Key, Predicate, unsaid, at_position, with_keys, Path, Edit, create, replace, remove, move_to, path_of, asked_by}

-- why an edit is refused: the number behind the `E`, and of a value that doesn't fit the one behind the `J`
pub record EditRefusal : Type 0 where
  pub code : ℕ
  pub document_code : Option ℕ

abbrev pub refused : {A : Type 0} → ℕ → Result A EditRefusal
refused code = Err (record { code = code; document_code = None })

abbrev pub value_refused : {A : Type 0} → ℕ → Result A EditRefusal
value_refused document_code = Err (record { code = 10; document_code = Some document_code })

-- ---- what texts spell, or E1

abbrev pub path_spelled : Text → Result Path EditRefusal
path_spelled text = option_map_or Ok (path_of text) (refused 1)

abbrev pub asked_or_refused : {A : Type 0} → Result A ⊤ → Result A EditRefusal
asked_or_refused (Ok x) = Ok x
asked_or_refused (Err e) = refused 1

-- what a line of a script asks for, if it asks for anything
abbrev pub edit_asked : Text → Result (Option Edit) EditRefusal
edit_asked line = asked_or_refused (asked_by line)

-- ---- what the steps of a path mean

-- a step's schema node with the nodes below it, and which of its instances is meant
pub record BoundStep : Type 0 where
  pub schema_node : SchemaNode
  pub predicate : Predicate

abbrev pub bound_named : Named → Predicate → (SchemaNode → Forest SchemaNode → Result (List BoundStep) EditRefusal) → Result (List BoundStep) EditRefusal
bound_named (child n below) predicate later =
    later n below >>= (λ steps. Ok (record { schema_node = n; predicate = predicate } ∷ steps))
bound_named other_form predicate later = refused 2
bound_named unknown predicate later = refused 2

-- E2: a name isn't there, or in the form that isn't due
abbrev pub bound_steps : Schema → Option ℕ → Forest SchemaNode → Path → Result (List BoundStep) EditRefusal
bound_steps schema parent children [] = Ok []
bound_steps schema parent children (s ∷ steps) = bound_named (named schema parent s.name children) s.predicate
    (λ n below. bound_steps schema (Some n.module_number) below steps)

abbrev pub has_name : Schema → Text → ℕ → Bool
has_name schema name number = option_map_or (λ n. is_text name n.name) (node_at schema number) false

-- each key once and no other name: as many as there are, and each of the list's keys is among them
abbrev pub names_keys : Schema → List ℕ → List Key → Bool
names_keys schema numbers keys = length keys == length numbers
    && list_all (λ number. list_any (λ (k : Key). has_name schema k.name number) keys) numbers

abbrev pub fits_kind : Schema → Kind → Predicate → Bool
fits_kind schema (list tuples amount) (at_position n) = true
fits_kind schema (list tuples amount) (with_keys keys) = nat_lt 0 (length tuples.keys) && names_keys schema tuples.keys keys
fits_kind schema (leaf_list type defaults amount) (at_position n) = true
fits_kind schema (container presence) unsaid = true
fits_kind schema (leaf type absence) unsaid = true
fits_kind schema _ _ = false

abbrev pub says_nothing : Predicate → Bool
says_nothing unsaid = true
says_nothing _ = false

-- E3: a predicate out of place; the last step of `create` bears none
abbrev pub are_in_place : Schema → Bool → List BoundStep → Bool
are_in_place schema is_create [] = true
are_in_place schema is_create (b ∷ []) =
    if is_create then says_nothing b.predicate else fits_kind schema b.schema_node.kind b.predicate
are_in_place schema is_create (b ∷ c ∷ bs) =
    fits_kind schema b.schema_node.kind b.predicate && are_in_place schema is_create (c ∷ bs)

abbrev pub in_place : Schema → Bool → List BoundStep → Result (List BoundStep) EditRefusal
in_place schema is_create steps = if are_in_place schema is_create steps then Ok steps else refused 3

-- positions count from 1, so no text spells a path with a position 0
abbrev pub is_zero : Predicate → Bool
is_zero (at_position n) = n == 0
is_zero _ = false

abbrev pub has_zero : Path → Bool
has_zero [] = false
has_zero (s ∷ steps) = if is_zero s.predicate then true else has_zero steps

-- E1: a path that no text spells, though it can be made as a value: without steps, or with a position 0
abbrev pub is_spelled : Path → Bool
is_spelled [] = false
is_spelled (s ∷ steps) = not (has_zero (s ∷ steps))

-- what a path means to an edit
abbrev pub bound : Schema → Bool → Path → Result (List BoundStep) EditRefusal
bound schema is_create path = if is_spelled path
    then bound_steps schema None schema.nodes path >>= in_place schema is_create else refused 1

-- E3: only an entry or an item is moved
abbrev pub ends_in_many : List BoundStep → Bool
ends_in_many [] = false
ends_in_many (b ∷ []) = is_many b.schema_node.kind
ends_in_many (b ∷ c ∷ bs) = ends_in_many (c ∷ bs)

abbrev pub movable : List BoundStep → Result (List BoundStep) EditRefusal
movable steps = if ends_in_many steps then Ok steps else refused 3

-- and no text spells the position 0
abbrev pub bound_to_move : Schema → Path → ℕ → Result (List BoundStep) EditRefusal
bound_to_move schema path position = if position == 0 then refused 1 else bound schema false path >>= movable

-- ---- which stored node a step means

-- the canonical text of the valid value of a stored leaf
abbrev pub text_of : Schema → Stored → Option Text
text_of schema s = option_and_then (λ n. option_and_then (λ type. option_map (canonical type.type) (value_of schema s))
    (type_in n.kind)) (node_at schema s.schema_number)

abbrev pub is_the_text : Text → Option Text → Bool
is_the_text text t = option_map_or (is_text text) t false

abbrev pub key_text : List Key → Schema → ℕ → Text
key_text keys schema number = option_map_or (λ k. k.text) (find (λ (k : Key). has_name schema k.name number) keys) []

-- each key is stored, valid and has that canonical text
abbrev pub fits_keys : Schema → List ℕ → List Key → Tree → Bool
fits_keys schema numbers keys entry = list_all (λ number.
    is_the_text (key_text keys schema number) (option_and_then (text_of schema) (stored_in number entry))) numbers

-- the positions, from one on, of the instances of a schema node in a row whose rows below pass a test
abbrev pub positions_where : ℕ → (Tree → Bool) → ℕ → Tree → List ℕ
positions_where number test position end = []
positions_where number test position (node s below after) = if s.schema_number == number
    then (if test below then position ∷ [] else []) ++ positions_where number test (position + 1) after
    else positions_where number test position after

-- E4 or E7, and E6
abbrev pub the_one : ℕ → ℕ → List ℕ → Result Step EditRefusal
the_one missing number [] = refused missing
the_one missing number (position ∷ []) = Ok (step_at number position)
the_one missing number (first ∷ second ∷ more) = refused 6

-- E5, and E4 or E7
abbrev pub instance_meant : Schema → ℕ → Tree → SchemaNode → Predicate → Result Step EditRefusal
instance_meant schema missing row n unsaid = if nat_lt 0 (instances_in row n.number) then Ok (step_to n.number) else refused missing
instance_meant schema missing row n (at_position position) =
    if nat_lt (instances_in row n.number) position then refused 5 else Ok (step_at n.number position)
instance_meant schema missing row n (with_keys keys) =
    the_one missing n.number (positions_where n.number (fits_keys schema (keys_in n.kind) keys) 1 row)

-- the row below the instance of a schema node that has an index among those of that node, from 0
abbrev pub row_at : ℕ → ℕ → Tree → Tree
row_at number place end = end
row_at number zero (node s below after) = if s.schema_number == number then below else row_at number zero after
row_at number (suc place) (node s below after) =
    if s.schema_number == number then row_at number place after else row_at number (suc place) after

-- the stored nodes above the last step's, the row in which that stands or would stand, and the last step
pub record Target : Type 0 where
  pub above : List Step
  pub row : Tree
  pub last : BoundStep

abbrev pub lower : Step → Target → Target
lower step t = record t { above = step ∷ t.above }

-- E4 to E6: what stands above isn't stored, or isn't one
abbrev pub target : Schema → Tree → List BoundStep → Result Target EditRefusal
target schema row [] = refused 1
target schema row (b ∷ []) = Ok (record { above = []; row = row; last = b })
target schema row (b ∷ c ∷ bs) = instance_meant schema 4 row b.schema_node b.predicate >>= (λ step.
    target schema (row_at step.schema_number (instance_index step) row) (c ∷ bs) >>= (λ t. Ok (lower step t)))

-- ---- the value

-- a node with what stands below it
pub record Branch : Type 0 where
  pub label : Stored
  pub below : Tree

abbrev pub branch : Schema → SchemaNode → Data → Branch
branch schema n d = record {
  label = stored_node n d;
  below = stored_rows schema (Some n.module_number) (children_of schema n.number) (members_of d);
}

-- E10: a value doesn't fit its node, an entry's or item's one instance, with the first refusal of a document
abbrev pub fitting_branch : Schema → SchemaNode → Data → Result Branch EditRefusal
fitting_branch schema n d = option_map_or (λ r. value_refused r.code)
    (first_wrong (instance_visits schema n (children_of schema n.number) [] d)) (Ok (branch schema n d))

-- a number that the schema gave has its node
abbrev pub branch_at : Schema → ℕ → Data → Result Branch EditRefusal
branch_at schema number d = option_map_or (λ n. fitting_branch schema n d) (node_at schema number) (refused 2)

-- E9: the text is no JSON
abbrev pub branch_of : Schema → ℕ → Text → Result Branch EditRefusal
branch_of schema number text = option_map_or (branch_at schema number) (json_of text) (refused 9)

-- ---- changes of a row

-- with a branch behind all nodes of its number and smaller ones
abbrev pub with_branch : Branch → Tree → Tree
with_branch b end = node b.label b.below end
with_branch b (node s below after) = if nat_lt b.label.schema_number s.schema_number
    then node b.label b.below (node s below after) else node s below (with_branch b after)

-- with a branch instead of the node that a step means
abbrev pub with_instead : Step → Branch → Tree → Tree
with_instead step b row =
    change_nth (is_of step.schema_number) (instance_index step) (λ s below after. node b.label b.below after) row

-- without the node that a step means
abbrev pub without : Step → Tree → Tree
without step row = change_nth (is_of step.schema_number) (instance_index step) (λ s below after. after) row

-- the instance of a schema node that has an index among those of that node, from 0
abbrev pub instance_branch : ℕ → ℕ → Tree → Option Branch
instance_branch number place end = None
instance_branch number zero (node s below after) =
    if is_of number s then Some (record { label = s; below = below }) else instance_branch number zero after
instance_branch number (suc place) (node s below after) =
    if is_of number s then instance_branch number place after else instance_branch number (suc place) after

-- whether a branch of a number, with so many more of that number to stand before it, goes in front of a node
abbrev pub goes_before : ℕ → ℕ → Stored → Bool
goes_before number count s = nat_lt number s.schema_number || (is_of number s && count == 0)

-- with a branch that has so many of its number before it, or all of them
abbrev pub with_branch_behind : Branch → ℕ → Tree → Tree
with_branch_behind b count end = node b.label b.below end
with_branch_behind b count (node s below after) = if goes_before b.label.schema_number count s
    then node b.label b.below (node s below after)
    else node s below (with_branch_behind b (if is_of b.label.schema_number s then count - 1 else count) after)

abbrev pub moved_branch : Step → ℕ → Tree → Branch → Tree
moved_branch step position row b = with_branch_behind b (position - 1) (without step row)

-- with the node that a step means taken out, and put in so that it has a position among those of its number; the others keep
-- their order
abbrev pub with_moved : Step → ℕ → Tree → Tree
with_moved step position row =
    option_map_or (moved_branch step position row) (instance_branch step.schema_number (instance_index step) row) row

-- ---- edits

-- E11
abbrev pub within_limit : Tree → Result Tree EditRefusal
within_limit tree = if nat_lt document_limit (size tree) then refused 11 else Ok tree

-- E8: a container or leaf that is created is there
abbrev pub is_there : Target → Bool
is_there t = not (is_many t.last.schema_node.kind) && nat_lt 0 (instances_in t.row t.last.schema_node.number)

abbrev pub created : Schema → Tree → Text → Target → Result Tree EditRefusal
created schema tree text t = if is_there t then refused 8
    else branch_of schema t.last.schema_node.number text >>= (λ b. within_limit (edit_at t.above (with_branch b) tree))

-- E7: what is replaced or removed isn't there
abbrev pub last_meant : Schema → Target → Result Step EditRefusal
last_meant schema t = instance_meant schema 7 t.row t.last.schema_node t.last.predicate

abbrev pub replaced : Schema → Tree → Text → Target → Result Tree EditRefusal
replaced schema tree text t = last_meant schema t >>= (λ step. branch_of schema t.last.schema_node.number text >>= (λ b.
    within_limit (edit_at t.above (with_instead step b) tree)))

abbrev pub removed : Schema → Tree → Target → Result Tree EditRefusal
removed schema tree t = last_meant schema t >>= (λ step. Ok (edit_at t.above (without step) tree))

-- E5: there are no so many
abbrev pub moved : Schema → Tree → ℕ → Target → Result Tree EditRefusal
moved schema tree position t = last_meant schema t >>= (λ step.
    if nat_lt (instances_in t.row t.last.schema_node.number) position then refused 5
    else Ok (edit_at t.above (with_moved step position) tree))

abbrev pub target_to_move : Schema → Tree → Path → ℕ → Result Target EditRefusal
target_to_move schema tree path position = bound_to_move schema path position >>= target schema tree

abbrev pub target_of : Schema → Tree → Bool → Path → Result Target EditRefusal
target_of schema tree is_create path = bound schema is_create path >>= target schema tree

-- the tree after an edit, or its refusal: the text's first, then the path's names and predicates, then where it stands,
-- then its value
unfoldable pub applied : Schema → Tree → Edit → Result Tree EditRefusal
applied schema tree (create path text) = target_of schema tree true path >>= created schema tree text
applied schema tree (replace path text) = target_of schema tree false path >>= replaced schema tree text
applied schema tree (remove path) = target_of schema tree false path >>= removed schema tree
applied schema tree (move_to path position) = target_to_move schema tree path position >>= moved schema tree position

-- ---- lists of edits

-- what comes of an edit: it is accepted, or refused so
abbrev pub Decision : Type 0
Decision = Option EditRefusal

abbrev pub decision : Result Tree EditRefusal → Decision
decision (Ok tree) = None
decision (Err e) = Some e

-- a refused edit changes nothing
abbrev pub tree_or : Result Tree EditRefusal → Tree → Tree
tree_or (Ok tree) before = tree
tree_or (Err e) before = before

-- the tree with the accepted ones of these edits applied, in order
abbrev pub after : Schema → Tree → List Edit → Tree
after schema tree [] = tree
after schema tree (e ∷ edits) = after schema (tree_or (applied schema tree e) tree) edits

-- what comes of each
abbrev pub decisions : Schema → Tree → List Edit → List Decision
decisions schema tree [] = []
decisions schema tree (e ∷ edits) = let answer = applied schema tree e in
    decision answer ∷ decisions schema (tree_or answer tree) edits
