-- The schema tree of a set of modules (RFC 7950, 4.2.2 and 7).
use Rattle.std.specs.Prelude.{ℕ, ◌==◌, Bool, true, false, List, [], ◌∷◌, codes, filter, Option, Some, None, option_map, unwrap_or, if◌then◌else◌, find, slice_get, ◌&&◌, ◌||◌, ◌++◌}
use Rattle.std.specs.Option.{option_map_or}
use Rattle.yspec.specs.Forest.{Forest, end, node, row, join, find_label, find_below}
use Rattle.yspec.specs.text.Text.{Text, is_text}
use Rattle.yspec.specs.text.Statement.{Statement}
use Rattle.yspec.specs.types.Types.{YangType, Val}

-- ---- what only one kind of node has

-- What a member of a union refers to that is one of a leafref's: the number of the leafref's target, as which member of the
-- target's type the value stands there, where that is a union, and whether an instance is required (RFC 7950, 9.9 and 9.12).
pub record MemberTarget : Type 0 where
  pub target : ℕ
  pub member : Option ℕ
  pub is_required : Bool

-- How a document has a value: as its type says (RFC 7951, 6); or it has any JSON value, or any object, and the value is the compact
-- text of that (RFC 7950, 7.10 and 7.11; RFC 7951, 5.5 and 5.6).
pub data JsonForm : Type 0 where
  by_type : JsonForm
  any_value : JsonForm
  any_object : JsonForm

-- The type of a leaf or of items, and its name as the `type` statement has it. Of a leafref the type is that of its target, whose
-- number stands beside it; of a union with leafrefs the members of these are those of their targets' types, and what each member
-- of the union refers to stands beside it. That of an `anydata` or `anyxml` is `string`.
pub record LeafType : Type 0 where
  pub name : Text
  pub type : YangType
  pub target : Option ℕ
  pub targets : List (Option MemberTarget)
  pub form : JsonForm

-- the type of a leaf that refers to no other
abbrev pub own_type : Text → YangType → LeafType
own_type name type = record { name = name; type = type; target = None; targets = []; form = by_type }

-- what it means that a leaf isn't stored: nothing; its default is in use; it is mandatory; it is a key of its list
pub data Absence : Type 0 where
  allowed : Absence
  default_used : Val → Absence
  mandatory : Absence
  key : Absence

-- min-elements and max-elements
pub record Amount : Type 0 where
  pub min_elements : ℕ
  pub max_elements : Option ℕ

-- the numbers of the containers that lead from an entry of a list to a leaf, and the leaf's
abbrev pub LeafPath : Type 0
LeafPath = List ℕ

-- the leafs of a list's key, which stand directly in it, and those of each `unique`
pub record Tuples : Type 0 where
  pub keys : List ℕ
  pub uniques : List (List LeafPath)

pub data Kind : Type 0 where
  -- whether its presence means something (RFC 7950, 7.5.1)
  container : Bool → Kind
  -- a leaf, an `anydata` or an `anyxml`
  leaf : LeafType → Absence → Kind
  -- with its defaults
  leaf_list : LeafType → List Val → Amount → Kind
  list : Tuples → Amount → Kind
  -- the number of its default case, and whether it is mandatory
  choice : Option ℕ → Bool → Kind
  case : Kind

-- RFC 7950, 7.21.2
pub data Status : Type 0 where
  current : Status
  deprecated : Status
  obsolete : Status

-- A schema node is named by its number in preorder over the whole forest, modules as given; its module by the place of
-- that module in the set.
pub record SchemaNode : Type 0 where
  pub number : ℕ
  pub module_number : ℕ
  pub name : Text
  pub config : Bool
  -- whether none of its items may stand twice, where it is a leaf-list (RFC 7950, 7.7; RFC 6020, 7.7)
  pub distinct_items : Bool
  pub status : Status
  pub kind : Kind

-- what an `augment` adds: the number of the node below which it stands, and those of the nodes right below it (RFC 7950,
-- 7.17)
pub record Augment : Type 0 where
  pub target : ℕ
  pub nodes : List ℕ

-- a module with its augments, in order of its text
pub record SchemaModule : Type 0 where
  pub name : Text
  pub prefix : Text
  pub augments : List Augment

pub record Schema : Type 0 where
  pub modules : List SchemaModule
  pub nodes : Forest SchemaNode

-- ---- kinds

-- choices and cases stand in no document (RFC 7950, 7.9)
abbrev pub is_data : Kind → Bool
is_data (choice default_case is_mandatory) = false
is_data case = false
is_data _ = true

-- it may be stored more than once in a row
abbrev pub is_many : Kind → Bool
is_many (list tuples amount) = true
is_many (leaf_list type defaults amount) = true
is_many _ = false

-- it holds a value
abbrev pub has_value : Kind → Bool
has_value (leaf type absence) = true
has_value (leaf_list type defaults amount) = true
has_value _ = false

abbrev pub type_in : Kind → Option LeafType
type_in (leaf type absence) = Some type
type_in (leaf_list type defaults amount) = Some type
type_in _ = None

abbrev pub form_in : Kind → JsonForm
form_in kind = option_map_or (λ type. type.form) (type_in kind) by_type

-- whether it is an `anydata` or `anyxml`
abbrev pub is_anything : JsonForm → Bool
is_anything by_type = false
is_anything _ = true

abbrev pub keys_in : Kind → List ℕ
keys_in (list tuples amount) = tuples.keys
keys_in _ = []

-- ---- statements

-- the argument; the keyword where there is none
abbrev pub argument_text : Statement → Text
argument_text s = unwrap_or s.argument s.keyword

-- ---- what a schema holds

-- whether an `anydata` or `anyxml` stands in a row or below it
abbrev pub has_anything : Forest SchemaNode → Bool
has_anything end = false
has_anything (node n below after) = is_anything (form_in n.kind) || (has_anything below || has_anything after)

-- the node of a number in a row or below it, and its children in order of definition
abbrev pub node_in : Forest SchemaNode → ℕ → Option SchemaNode
node_in nodes number = find_label (λ n. n.number == number) nodes

abbrev pub row_below : Forest SchemaNode → ℕ → Forest SchemaNode
row_below nodes number = unwrap_or (find_below (λ n. n.number == number) nodes) end

abbrev pub node_at : Schema → ℕ → Option SchemaNode
node_at schema number = node_in schema.nodes number

abbrev pub children_of : Schema → ℕ → Forest SchemaNode
children_of schema number = row_below schema.nodes number

abbrev pub module_name : Schema → ℕ → Text
module_name schema number = option_map_or (λ m. m.name) (slice_get schema.modules number) []

abbrev pub module_prefix : Schema → ℕ → Text
module_prefix schema number = option_map_or (λ m. m.prefix) (slice_get schema.modules number) []

abbrev pub augments_in : Schema → ℕ → List Augment
augments_in schema number = option_map_or (λ m. m.augments) (slice_get schema.modules number) []

-- the name of a child as it is written below a node of a module, or at the top: with its module's name in front
-- where that isn't the same (RFC 7951, 4)
abbrev pub qualified_name : Schema → SchemaNode → Text
qualified_name schema n = module_name schema n.module_number ++ codes ":" ++ n.name

abbrev pub is_module : ℕ → Option ℕ → Bool
is_module m None = false
is_module m (Some parent) = m == parent

abbrev pub written_name : Schema → Option ℕ → SchemaNode → Text
written_name schema parent n = if is_module n.module_number parent then n.name else qualified_name schema n

-- the form that is not due there
abbrev pub other_name : Schema → Option ℕ → SchemaNode → Text
other_name schema parent n = if is_module n.module_number parent then qualified_name schema n else n.name

-- the data nodes of a row, those reached through choices and cases included (RFC 7950, 7.9)
abbrev pub data_row : Forest SchemaNode → Forest SchemaNode
data_row end = end
data_row (node n below after) =
    if is_data n.kind then node n below (data_row after) else join (data_row below) (data_row after)

-- the way to each node of a row in preorder: the nodes above it, from the top down, and itself
abbrev pub ways : List SchemaNode → Forest SchemaNode → List (List SchemaNode)
ways above end = []
ways above (node n below after) =
    (above ++ n ∷ []) ∷ (ways (above ++ n ∷ []) below ++ ways above after)

-- the way to the node of a number, and that of the data nodes alone (RFC 7950, 9.9.2)
abbrev pub way_to : Schema → ℕ → List SchemaNode
way_to schema number = unwrap_or (slice_get (ways [] schema.nodes) number) []

abbrev pub data_way_to : Schema → ℕ → List SchemaNode
data_way_to schema number = filter (λ n. is_data n.kind) (way_to schema number)

-- the node of a number in a row, with what stands below it
abbrev pub child_in : Forest SchemaNode → ℕ → Option (SchemaNode × Forest SchemaNode)
child_in end number = None
child_in (node n below after) number = if n.number == number then Some (n, below) else child_in after number

-- ---- a child by its name

-- the children of a node, or the top nodes
abbrev pub row_at : Schema → Option ℕ → Forest SchemaNode
row_at schema None = schema.nodes
row_at schema (Some parent) = children_of schema parent

-- the module of a node; none at the top
abbrev pub module_at : Schema → Option ℕ → Option ℕ
module_at schema None = None
module_at schema (Some number) = option_map (λ n. n.module_number) (node_at schema number)

abbrev pub is_called : ℕ → Text → SchemaNode → Bool
is_called module_number name n = module_number == n.module_number && is_text name n.name

abbrev pub is_written : Schema → Option ℕ → Text → SchemaNode → Bool
is_written schema parent name n = is_text name (written_name schema (module_at schema parent) n)

-- the number of the first node of a row that passes a test
abbrev pub first_in_row : (SchemaNode → Bool) → Forest SchemaNode → Option ℕ
first_in_row test nodes = option_map (λ n. n.number) (find test (row nodes))

-- the child of a module and a name
abbrev pub child_named : Schema → Option ℕ → ℕ → Text → Option ℕ
child_named schema parent module_number name = first_in_row (is_called module_number name) (row_at schema parent)

-- the child whose name a document writes so; choices and cases are passed through
abbrev pub child_written : Schema → Option ℕ → Text → Option ℕ
child_written schema parent name = first_in_row (is_written schema parent name) (data_row (row_at schema parent))
