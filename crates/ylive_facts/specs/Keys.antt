-- The keys of indexes that stored nodes hold: what a leaf or item refers to, an item's value, and an entry's tuples and
-- texts.
use Rattle.std.specs.Prelude.{ℕ, zero, suc, ◌+◌, ◌==◌, ◌&&◌, ◌++◌, Bool, false, List, [], ◌∷◌, map, length, bytes_eq, Option, Some, None, option_and_then, option_map, option_to_list, string_bytes, if◌then◌else◌}
use Rattle.std.specs.Cmp.Lexicographic.{pointwise}
use Rattle.std.specs.Option.{option_map_or}
use Rattle.yspec.specs.Forest.{weigh_row}
use Rattle.yspec.specs.text.Text.{Text}
use Rattle.yspec.specs.types.Types.{Val}
use Rattle.yspec.specs.types.Order.{same_value}
use Rattle.yspec.specs.schema.Schema.{Schema, Kind, LeafType, leaf_list, list, node_at, type_in}
use Rattle.yspec.specs.schema.References.{Reference, may_require, reference_in}
use Rattle.yspec.specs.document.Document.{Stored, Tree, stored_in}
use Rattle.yspec.specs.document.Instances.{Tuple, value_of, same_tuple, tuple_of_paths, paths_of}
use Rattle.yspec.specs.edit.Editing.{text_of}
use Rattle.ystore.specs.Store.{same_row}
use Rattle.ystore_rows.specs.declared.row.NodeId.{NodeId}
use Rattle.ystore_rows.specs.declared.row.Row.{Row}
use Rattle.ystore.specs.declared.key.Key as rust
use Rattle.ystore.specs.declared.key.Key.TheVariants.{Value, Item, Tuple as TupleKey, Texts}

-- ---- keys

-- a key by what it holds, schema nodes by their numbers
pub data Key : Type 0 where
  value_key : ℕ → Val → Key
  item_key : Row → ℕ → Val → Key
  tuple_key : Row → ℕ → ℕ → Tuple → Key
  texts_key : Row → ℕ → List Text → Key

abbrev pub key_view : rust.Key → Key
key_view (Value schema v) = value_key schema.0 v
key_view (Item row schema v) = item_key row schema.0 v
key_view (TupleKey row schema u vs) = tuple_key row schema.0 u vs.items
key_view (Texts row schema texts) = texts_key row schema.0 (map string_bytes texts.items)

-- whether two are the same
abbrev pub same : Key → Key → Bool
same (value_key m v) (value_key n w) = m == n && same_value v w
same (item_key r m v) (item_key s n w) = same_row r s && (m == n && same_value v w)
same (tuple_key r m t vs) (tuple_key s n u ws) = same_row r s && (m == n && (t == u && same_tuple vs ws))
same (texts_key r m texts) (texts_key s n others) = same_row r s && (m == n && pointwise bytes_eq texts others)
same _ _ = false

-- a key with a node that holds it
abbrev pub Holding : Type 0
Holding = Key × NodeId

abbrev pub holdings : List (rust.Key × NodeId) → List Holding
holdings = map (λ p. (key_view p.0, p.1))

abbrev pub held_with : NodeId → List Key → List Holding
held_with id = map (λ key. (key, id))

-- ---- which keys a node holds

-- how many flags a node has: whether another has its value, or its tuple of the key (0) or of a `unique` (from 1)
abbrev pub kind_flags : Bool → Kind → ℕ
kind_flags distinct (list tuples amount) = 1 + length tuples.uniques
kind_flags distinct (leaf_list type defaults amount) = if distinct then 1 else 0
kind_flags distinct _ = 0

abbrev pub flags_of : Schema → ℕ → ℕ
flags_of schema number = option_map_or (λ n. kind_flags n.distinct_items n.kind) (node_at schema number) 0

-- whether a node is an item that may stand but once
abbrev pub is_kind_item : Bool → Kind → Bool
is_kind_item distinct (leaf_list type defaults amount) = distinct
is_kind_item distinct _ = false

abbrev pub is_item : Schema → ℕ → Bool
is_item schema number = option_map_or (λ n. is_kind_item n.distinct_items n.kind) (node_at schema number) false

-- the key of what a value refers to, where an instance of it is required
abbrev pub required_key : Reference → Option Key
required_key r = if r.is_required then Some (value_key r.target r.value) else None

abbrev pub leaf_key : LeafType → Val → Option Key
leaf_key type v = option_and_then required_key (reference_in type v)

-- the type of a leaf or of items, where a value may have one
abbrev pub type_asked : LeafType → Option LeafType
type_asked type = if may_require type then Some type else None

abbrev pub asking_type : Kind → Option LeafType
asking_type kind = option_and_then type_asked (type_in kind)

-- that of a leaf or item
abbrev pub kind_reference : Schema → Kind → Stored → Option Key
kind_reference schema kind s = option_and_then (λ type. option_and_then (leaf_key type) (value_of schema s)) (type_in kind)

abbrev pub reference_key : Schema → Stored → Option Key
reference_key schema s = option_and_then (λ n. kind_reference schema n.kind s) (node_at schema s.schema_number)

-- the canonical texts of leafs in a row, where each is stored and valid
abbrev pub texts_in : Schema → List ℕ → Tree → Option (List Text)
texts_in schema [] t = Some []
texts_in schema (number ∷ numbers) t = option_and_then (λ text. option_map (λ texts. text ∷ texts) (texts_in schema numbers t))
    (option_and_then (text_of schema) (stored_in number t))

-- by what a path finds an entry of a list with this key, if it has one
abbrev pub entry_key : Schema → List ℕ → Row → Stored → Tree → Option Key
entry_key schema [] above s below = None
entry_key schema (number ∷ numbers) above s below =
    option_map (texts_key above s.schema_number) (texts_in schema (number ∷ numbers) below)

-- by what a path finds an entry, and what another node refers to
abbrev pub first_key : Schema → Kind → Row → Stored → Tree → Option Key
first_key schema (list tuples amount) above s below = entry_key schema tuples.keys above s below
first_key schema kind above s below = kind_reference schema kind s

-- the value of an item, which has one flag
abbrev pub item_key_at : Schema → Bool → Row → Stored → ℕ → Option Key
item_key_at schema distinct above s zero =
    if distinct then option_map (item_key above s.schema_number) (value_of schema s) else None
item_key_at schema distinct above s (suc u) = None

-- what is flagged at a number: an item's value, or a tuple of an entry
abbrev pub kind_key : Schema → Bool → Kind → Row → Stored → Tree → ℕ → Option Key
kind_key schema distinct (list tuples amount) above s below u =
    option_map (tuple_key above s.schema_number u) (tuple_of_paths schema below (paths_of tuples u))
kind_key schema distinct (leaf_list type defaults amount) above s below u = item_key_at schema distinct above s u
kind_key schema distinct _ above s below u = None

abbrev pub flagged_key : Schema → Row → Stored → Tree → ℕ → Option Key
flagged_key schema above s below u = option_and_then (λ n. kind_key schema n.distinct_items n.kind above s below u) (node_at schema s.schema_number)

-- the key that a node of a row holds at a slot: first what it refers to or is found by, then what is flagged
abbrev pub key_at : Schema → Row → Stored → Tree → ℕ → Option Key
key_at schema above s below zero = option_and_then (λ n. first_key schema n.kind above s below) (node_at schema s.schema_number)
key_at schema above s below (suc u) = flagged_key schema above s below u

abbrev pub slots_of : Schema → ℕ → ℕ
slots_of schema number = 1 + flags_of schema number

-- the keys at so many slots, from one on
abbrev pub keys_from : (ℕ → Option Key) → ℕ → ℕ → List Key
keys_from at slot zero = []
keys_from at slot (suc more) = option_to_list (at slot) ++ keys_from at (slot + 1) more

-- all of them
abbrev pub held_by : Schema → Row → Stored → Tree → List Key
held_by schema above s below = keys_from (key_at schema above s below) 0 (slots_of schema s.schema_number)

-- ---- what a key says of the nodes that hold it

-- the slot at which they do
abbrev pub slot_of : Key → Option ℕ
slot_of (value_key target v) = Some 0
slot_of (item_key row number v) = Some 1
slot_of (tuple_key row number u vs) = Some (suc u)
slot_of (texts_key row number texts) = Some 0

-- whether a node has it, which has one at that slot, or none
abbrev pub is_held : Key → Option Key → Bool
is_held key held = option_map_or (same key) held false

-- how many nodes of a row have a key at a slot
abbrev pub times_held : Schema → Row → Tree → ℕ → Key → ℕ
times_held schema above t slot key =
    weigh_row (λ s below. if is_held key (key_at schema above s below slot) then 1 else 0) t
