-- What document a JSON text denotes under a schema, or why none (RFC 7951, 4 to 6).
use Rattle.std.specs.Prelude.{ℕ, suc, ◌-◌, ◌+◌, ◌==◌, ◌^◌, ℤ, pos, negsuc, Bool, true, false, not, ◌&&◌, nat_le, List, [], ◌∷◌, ◌++◌, Option, Some, None, Result, Ok, Err, if◌then◌else◌}
use Rattle.std.specs.Option.{option_map_or}
use Rattle.std.specs.Str.{is_utf8}
use Rattle.serde_json.specs.Data.{Num, unsigned, negative, float, Data, null, boolean, number, string, array, object, Items, no_items, item, Members, no_members, member, depth}
use Rattle.serde_json.specs.Find.{get_member}
use Rattle.serde_json.specs.Read.{read}
use Rattle.serde_json.specs.Written.{compact_text, has_float}
use Rattle.yspec.specs.Forest.{Forest, end, node, join}
use Rattle.yspec.specs.types.Ranges.{Part, lies_in}
use Rattle.yspec.specs.types.Types.{Raw, text, int, bool, empty}
use Rattle.yspec.specs.text.Text.{Text, is_text}
use Rattle.yspec.specs.schema.Schema.{Schema, SchemaNode, Kind, JsonForm, by_type, any_value, any_object, is_data, is_many, has_value, form_in, data_row, written_name, other_name}
use Rattle.yspec.specs.document.Document.{Stored, Tree, Step, below_place, instance_place, document_limit}

-- why a document isn't read: the number behind the `J`, and the place
pub record Refusal : Type 0 where
  pub code : ℕ
  pub place : List Step

-- a node that is right, or what is refused
pub data Visit : Type 0 where
  right : List Step → Visit
  wrong : ℕ → List Step → Visit

-- ---- values of leafs

-- the whole numbers of 64 bits
abbrev pub whole_numbers : Part
whole_numbers = record { low = negsuc (2 ^ 63 - 1); high = pos (2 ^ 64 - 1) }

abbrev pub raw_integer : ℤ → Option Raw
raw_integer z = if lies_in z whole_numbers then Some (int z) else None

abbrev pub raw_number : Num → Option Raw
raw_number (unsigned n) = raw_integer (pos n)
raw_number (negative z) = raw_integer z
raw_number (float x) = None

-- an array whose one item is null (RFC 7951, 6.9)
abbrev pub raw_array : Items → Option Raw
raw_array (item null no_items) = Some empty
raw_array _ = None

abbrev pub raw_of : Data → Option Raw
raw_of null = None
raw_of (boolean b) = Some (bool b)
raw_of (number n) = raw_number n
raw_of (string s) = Some (text s)
raw_of (array ds) = raw_array ds
raw_of (object ms) = None

-- a number that is no whole one of 64 bits, or another value that no leaf has
abbrev pub refused_value : Data → ℕ
refused_value (number n) = 6
refused_value _ = 5

-- the values of `anydata` and `anyxml` nest no deeper
abbrev pub nesting_limit : ℕ
nesting_limit = 64

-- Numbers in them are whole ones of 64 bits as well.
abbrev pub is_kept : Data → Bool
is_kept d = not (has_float d) && nat_le (depth d) nesting_limit

abbrev pub whole_raw : Data → Option Raw
whole_raw d = if is_kept d then Some (text (compact_text d)) else None

abbrev pub is_object : Data → Bool
is_object (object ms) = true
is_object _ = false

-- what is held of a value
abbrev pub raw_by : JsonForm → Data → Option Raw
raw_by by_type d = raw_of d
raw_by any_value d = whole_raw d
raw_by any_object d = if is_object d then whole_raw d else None

-- where nothing is, the number of the refusal
abbrev pub refused_by : JsonForm → Data → ℕ
refused_by by_type d = refused_value d
refused_by any_value d = if has_float d then 6 else 5
refused_by any_object d = if is_object d && has_float d then 6 else 5

-- ---- names of members

-- the child that a member's name means; that it is in the form that isn't due; or that no child has it
pub data Named : Type 0 where
  child : SchemaNode → Forest SchemaNode → Named
  other_form : Named
  unknown : Named

abbrev pub other_or : Bool → Named → Named
other_or is_other (child n below) = child n below
other_or true later = other_form
other_or false later = later

-- what a name means in a row of data nodes
abbrev pub named_in : Schema → Option ℕ → Text → Forest SchemaNode → Named
named_in schema parent name end = unknown
named_in schema parent name (node n below after) = if is_text name (written_name schema parent n) then child n below
    else other_or (is_text name (other_name schema parent n)) (named_in schema parent name after)

-- below a parent of a module, or at the top, whose children are given
abbrev pub named : Schema → Option ℕ → Text → Forest SchemaNode → Named
named schema parent name children = named_in schema parent name (data_row children)

abbrev pub at_named : Named → List Step → (SchemaNode → Forest SchemaNode → List Visit) → List Visit
at_named (child n below) place visits = visits n below
at_named other_form place visits = wrong 4 place ∷ []
at_named unknown place visits = wrong 3 place ∷ []

-- ---- visits

abbrev pub leaf_visit : JsonForm → List Step → Data → List Visit
leaf_visit form place d = option_map_or (λ _. right place ∷ []) (raw_by form d) (wrong (refused_by form d) place ∷ [])

-- of a value that is no object: only a leaf or an item has one
abbrev pub value_visit : Kind → List Step → Data → List Visit
value_visit kind place d = if has_value kind then leaf_visit (form_in kind) place d else wrong 5 place ∷ []

-- of an object; `inner` are the visits of its members, which are none of a leaf or an item
abbrev pub object_visit : Kind → List Step → Members → List Visit → List Visit
object_visit kind place ms inner = if has_value kind then leaf_visit (form_in kind) place (object ms) else right place ∷ inner

-- a list or leaf-list is an array
abbrev pub unless_many : Kind → List Step → List Visit → List Visit
unless_many kind place visits = if is_many kind then wrong 5 place ∷ [] else visits

-- every right node and every refusal: depth first, members in byte order of their names, items by position
unfoldable mutual
  -- of an object's members
  pub member_visits : Schema → Option ℕ → Forest SchemaNode → List Step → Members → List Visit
  member_visits schema parent children place no_members = []
  member_visits schema parent children place (member name d ms) = at_named (named schema parent name children) place
      (λ n below. node_visits schema n below place d) ++ member_visits schema parent children place ms

  -- of the value of a member; the place is that of the parent
  pub node_visits : Schema → SchemaNode → Forest SchemaNode → List Step → Data → List Visit
  node_visits schema n below place (array ds) = if is_many n.kind then item_visits schema n below place 1 ds
      else value_visit n.kind (below_place place n) (array ds)
  node_visits schema n below place (object ms) = unless_many n.kind (below_place place n)
      (object_visit n.kind (below_place place n) ms (member_visits schema (Some n.module_number) below (below_place place n) ms))
  node_visits schema n below place null =
      unless_many n.kind (below_place place n) (value_visit n.kind (below_place place n) null)
  node_visits schema n below place (boolean b) =
      unless_many n.kind (below_place place n) (value_visit n.kind (below_place place n) (boolean b))
  node_visits schema n below place (number x) =
      unless_many n.kind (below_place place n) (value_visit n.kind (below_place place n) (number x))
  node_visits schema n below place (string s) =
      unless_many n.kind (below_place place n) (value_visit n.kind (below_place place n) (string s))

  -- of the entries or items from a position on
  pub item_visits : Schema → SchemaNode → Forest SchemaNode → List Step → ℕ → Items → List Visit
  item_visits schema n below place position no_items = []
  item_visits schema n below place position (item d ds) = instance_visits schema n below (instance_place place n position) d
      ++ item_visits schema n below place (position + 1) ds

  -- of a container, an entry, a leaf or an item; the place is its own
  pub instance_visits : Schema → SchemaNode → Forest SchemaNode → List Step → Data → List Visit
  instance_visits schema n below place (object ms) =
      object_visit n.kind place ms (member_visits schema (Some n.module_number) below place ms)
  instance_visits schema n below place (array ds) = value_visit n.kind place (array ds)
  instance_visits schema n below place null = value_visit n.kind place null
  instance_visits schema n below place (boolean b) = value_visit n.kind place (boolean b)
  instance_visits schema n below place (number x) = value_visit n.kind place (number x)
  instance_visits schema n below place (string s) = value_visit n.kind place (string s)

-- the top is an object
abbrev pub visits : Schema → Data → List Visit
visits schema (object ms) = member_visits schema None schema.nodes [] ms
visits schema _ = wrong 2 [] ∷ []

abbrev pub first_wrong : List Visit → Option Refusal
first_wrong [] = None
first_wrong (right place ∷ vs) = first_wrong vs
first_wrong (wrong code place ∷ vs) = Some (record { code = code; place = place })

-- how many nodes are right
abbrev pub right_nodes : List Visit → ℕ
right_nodes [] = 0
right_nodes (right place ∷ vs) = suc (right_nodes vs)
right_nodes (wrong code place ∷ vs) = right_nodes vs

-- the first refusal, where there is room for so many right nodes
abbrev pub first_refusal : ℕ → List Visit → Option Refusal
first_refusal room [] = None
first_refusal room (right place ∷ vs) =
    if room == 0 then Some (record { code = 7; place = [] }) else first_refusal (room - 1) vs
first_refusal room (wrong code place ∷ vs) = Some (record { code = code; place = place })

abbrev pub verdict : Schema → Data → Option Refusal
verdict schema d = first_refusal document_limit (visits schema d)

-- ---- the tree that a value denotes

abbrev pub members_of : Data → Members
members_of (object ms) = ms
members_of _ = no_members

abbrev pub items_of : Data → Items
items_of (array ds) = ds
items_of _ = no_items

abbrev pub raw_in : Kind → Data → Option Raw
raw_in kind d = if has_value kind then raw_by (form_in kind) d else None

abbrev pub stored_node : SchemaNode → Data → Stored
stored_node n d = record { schema_number = n.number; value = raw_in n.kind d }

-- the row of the entries or items of an array; `inner` is what stands below one
abbrev pub item_row : SchemaNode → (Data → Tree) → Items → Tree
item_row n inner no_items = end
item_row n inner (item d ds) = node (stored_node n d) (inner d) (item_row n inner ds)

-- the row of the instances that a member's value denotes, where the member is there
abbrev pub instance_row : SchemaNode → (Data → Tree) → Option Data → Tree
instance_row n inner None = end
instance_row n inner (Some d) = if is_many n.kind then item_row n inner (items_of d) else node (stored_node n d) (inner d) end

-- the row that members denote below a parent of a module, whose children are given
unfoldable pub stored_rows : Schema → Option ℕ → Forest SchemaNode → Members → Tree
stored_rows schema parent end ms = end
stored_rows schema parent (node n below after) ms = join (if is_data n.kind
    then instance_row n (λ d. stored_rows schema (Some n.module_number) below (members_of d)) (get_member (written_name schema parent n) ms)
    else stored_rows schema parent below ms) (stored_rows schema parent after ms)

-- the tree that a value with no refusal denotes
abbrev pub denoted : Schema → Data → Tree
denoted schema d = stored_rows schema None schema.nodes (members_of d)

-- ---- bytes

-- the JSON value of a text, where it has one
abbrev pub json_of : List ℕ → Option Data
json_of bytes = if is_utf8 bytes then read bytes else None

abbrev pub tree_or_refusal : Schema → Data → Result Tree Refusal
tree_or_refusal schema d = option_map_or Err (verdict schema d) (Ok (denoted schema d))

-- the document that bytes denote, or the first refusal
unfoldable pub document_of : Schema → List ℕ → Result Tree Refusal
document_of schema bytes =
    option_map_or (tree_or_refusal schema) (json_of bytes) (Err (record { code = 1; place = [] }))
