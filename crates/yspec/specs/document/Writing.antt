-- The JSON text of a document (RFC 7951, 4 to 6).
use Rattle.std.specs.Prelude.{◌<◌, ◌==◌, false, length, ◌≡◌, ◌≢◌, ℕ, ℤ, Bool, true, Option, Some, None, option_and_then, unwrap_or, if◌then◌else◌}
use Rattle.std.specs.List.{list_any}
use Rattle.std.specs.Option.{option_map_or}
use Rattle.serde_json.specs.Data.{Data, null, boolean, number, string, array, object, Items, no_items, item, Members, no_members, put}
use Rattle.serde_json.specs.Find.{of_integer}
use Rattle.serde_json.specs.Written.{compact_text}
use Rattle.yspec.specs.Forest.{Forest, end, node}
use Rattle.yspec.specs.text.Text.{Text, colon}
use Rattle.yspec.specs.types.Ranges.{lies_in}
use Rattle.yspec.specs.types.Types.{Raw, text, int, bool, empty}
use Rattle.yspec.specs.schema.Schema.{Schema, SchemaNode, Kind, JsonForm, by_type, any_value, any_object, is_data, is_many, has_value, form_in, data_row, module_name, written_name}
use Rattle.yspec.specs.document.Document.{Tree, instances}
use Rattle.yspec.specs.document.Reading.{whole_numbers, is_kept, raw_by, json_of}
use Rattle.yspec.specs.document.Fitting.{FitsBy}

-- ---- values of leafs

-- a whole number of 64 bits; no other has a text
abbrev pub whole_number : ℤ → Data
whole_number z = if lies_in z whole_numbers then number (of_integer z) else null

-- what a document has for a value; `empty` is an array whose one item is null (RFC 7951, 6.9)
abbrev pub data_of : Raw → Data
data_of (text t) = string t
data_of (int z) = whole_number z
data_of (bool b) = boolean b
data_of empty = array (item null no_items)

-- the value that a text spells, where such a one is kept
abbrev pub if_kept : Data → Option Data
if_kept d = if is_kept d then Some d else None

abbrev pub whole_data : Raw → Data
whole_data (text t) = unwrap_or (option_and_then if_kept (json_of t)) null
whole_data _ = null

abbrev pub data_by : JsonForm → Raw → Data
data_by by_type raw = data_of raw
data_by any_value raw = whole_data raw
data_by any_object raw = whole_data raw

abbrev pub leaf_data : JsonForm → Option Raw → Data
leaf_data form value = option_map_or (data_by form) value null

-- ---- nodes

-- `inner` are the members of what stands below the node
abbrev pub written_node : Kind → Option Raw → Members → Data
written_node kind value inner = if has_value kind then leaf_data (form_in kind) value else object inner

abbrev pub written_items : Kind → (Tree → Members) → Tree → Items
written_items kind inner end = no_items
written_items kind inner (node s below after) = item (written_node kind s.value (inner below)) (written_items kind inner after)

-- the member of the instances of a node, where there are any
abbrev pub with_instances : Text → Kind → (Tree → Members) → Tree → Members → Members
with_instances name kind inner end so_far = so_far
with_instances name kind inner (node s below after) so_far = put name (if is_many kind
    then array (written_items kind inner (node s below after)) else written_node kind s.value (inner below)) so_far

-- the members of a row below a parent of a module, put in one after another
unfoldable pub row_members : Schema → Option ℕ → Forest SchemaNode → Tree → Members → Members
row_members schema parent end t so_far = so_far
row_members schema parent (node n below after) t so_far = row_members schema parent after t (if is_data n.kind
    then with_instances (written_name schema parent n) n.kind (λ inner. row_members schema (Some n.module_number) below inner no_members)
    (instances n.number t) so_far
    else row_members schema parent below t so_far)

abbrev pub written_value : Schema → Tree → Data
written_value schema tree = object (row_members schema None schema.nodes tree no_members)

-- the compact text, in which members stand in byte order of their names
abbrev pub written_text : Schema → Tree → Text
written_text schema tree = compact_text (written_value schema tree)

-- ---- which documents can be read again

-- no node of a row is written with that name
abbrev pub IsNew : Schema → Option ℕ → Text → Forest SchemaNode → Type 0
IsNew schema parent name end = Unit {0}
IsNew schema parent name (node n below after) = (name ≢ written_name schema parent n) × IsNew schema parent name after

-- no two nodes of a row are written with one name
abbrev pub RowDiffers : Schema → Option ℕ → Forest SchemaNode → Type 0
RowDiffers schema parent end = Unit {0}
RowDiffers schema parent (node n below after) =
    IsNew schema parent (written_name schema parent n) after × RowDiffers schema parent after

-- no two data nodes below a data node are
abbrev pub ChildrenDiffer : Schema → SchemaNode → Forest SchemaNode → Type 0
ChildrenDiffer schema n below = (is_data n.kind ≡ true) → RowDiffers schema (Some n.module_number) (data_row below)

-- nor below any node that stands in a row or below it
abbrev pub AllDiffer : Schema → Forest SchemaNode → Type 0
AllDiffer schema end = Unit {0}
AllDiffer schema (node n below after) = ChildrenDiffer schema n below × AllDiffer schema below × AllDiffer schema after

-- no two data nodes with one parent are written with one name
abbrev pub NamesDiffer : Schema → Type 0
NamesDiffer schema = RowDiffers schema None (data_row schema.nodes) × AllDiffer schema schema.nodes

-- a value that a document can have: what is written for it is held as it
abbrev pub HasText : JsonForm → Option Raw → Type 0
HasText form None = ⊥
HasText form (Some raw) = raw_by form (data_by form raw) ≡ Some raw

abbrev pub HasTextIf : Bool → JsonForm → Option Raw → Type 0
HasTextIf true form value = HasText form value
HasTextIf false form value = value ≡ None

-- a leaf and an item have such a value, and nothing else has a value
abbrev pub HasForm : SchemaNode → Option Raw → Type 0
HasForm n value = HasTextIf (has_value n.kind) (form_in n.kind) value

-- a document that fits a schema, in values too
abbrev pub IsDocument : Schema → Tree → Type 0
IsDocument schema tree = FitsBy HasForm schema.nodes 0 tree

-- ---- when no two siblings are written with one name

-- no colon is in it
abbrev pub IsPlain : Text → Type 0
IsPlain t = list_any (λ c. c == colon) t ≡ false

-- a node of one of a schema's modules, whose name has no colon
abbrev pub IsNamed : Schema → SchemaNode → Type 0
IsNamed schema n = IsPlain n.name × (n.module_number < length schema.modules)

-- so each node of a row, and all below it
abbrev pub NodesAreNamed : Schema → Forest SchemaNode → Type 0
NodesAreNamed schema end = Unit {0}
NodesAreNamed schema (node n below after) = IsNamed schema n × NodesAreNamed schema below × NodesAreNamed schema after

-- a node's siblings after it are of other modules or have other names
abbrev pub HasItsName : SchemaNode → Forest SchemaNode → Type 0
HasItsName n end = Unit {0}
HasItsName n (node m below after) = (n.module_number ≡ m.module_number → n.name ≢ m.name) × HasItsName n after

abbrev pub RowIsNamed : Schema → Forest SchemaNode → Type 0
RowIsNamed schema end = Unit {0}
RowIsNamed schema (node n below after) = IsNamed schema n × HasItsName n after × RowIsNamed schema after

-- the data nodes below each node of a row, and so on below
abbrev pub AllAreNamed : Schema → Forest SchemaNode → Type 0
AllAreNamed schema end = Unit {0}
AllAreNamed schema (node n below after) =
    RowIsNamed schema (data_row below) × AllAreNamed schema below × AllAreNamed schema after

-- data nodes with one parent differ in module or name (RFC 7950, 6.2.1)
abbrev pub AreNamed : Schema → Type 0
AreNamed schema = RowIsNamed schema (data_row schema.nodes) × AllAreNamed schema schema.nodes

-- modules of different numbers have different names, without colons
abbrev pub ModulesDiffer : Schema → Type 0
ModulesDiffer schema = (i j : ℕ) → i < length schema.modules → j < length schema.modules
    → IsPlain (module_name schema i) × (module_name schema i ≡ module_name schema j → i ≡ j)
