-- Values and tuples of a document, defaults in use included (RFC 7950, 7.8.2, 7.8.3, 9.9 and 7.6.1).
use Rattle.std.specs.Prelude.{ℕ, ◌+◌, ◌==◌, Bool, false, List, [], ◌∷◌, map, Option, Some, None, option_and_then, option_map, count_by, slice_get, unwrap_or, zero, suc, sum_by, if◌then◌else◌}
use Rattle.std.specs.Option.{option_map_or}
use Rattle.std.specs.Cmp.Lexicographic.{pointwise}
use Rattle.yspec.specs.Forest.{Forest, end, weigh_nodes, weigh_row}
use Rattle.yspec.specs.types.Types.{Raw, Val, taken}
use Rattle.yspec.specs.types.Order.{same_value}
use Rattle.yspec.specs.schema.Schema.{Schema, SchemaNode, Kind, container, leaf, leaf_list, list, default_used, Tuples, LeafPath, node_at, children_of}
use Rattle.yspec.specs.document.Document.{Stored, Tree, instances_in, stored_in, row_in}
use Rattle.yspec.specs.document.Play.{Item, in_use, in_play}

-- ---- the values of a schema node

abbrev pub kind_value : Kind → Raw → Option Val
kind_value (leaf type absence) raw = taken type.type raw
kind_value (leaf_list type defaults amount) raw = taken type.type raw
kind_value _ raw = None

-- the valid value that a stored node has
abbrev pub value_of : Schema → Stored → Option Val
value_of schema s = option_and_then (λ n. option_and_then (kind_value n.kind) s.value) (node_at schema s.schema_number)

abbrev pub is_value : Val → Option Val → Bool
is_value v w = option_map_or (same_value v) w false

-- how often a default in use of a schema node is a value
abbrev pub times_in_use : ℕ → Val → Item → ℕ
times_in_use number v (in_use m vs) = if m == number then count_by (same_value v) vs else 0
times_in_use number v _ = 0

-- how many instances a schema node has with a value in a stored node and in what is in play below it unstored
abbrev pub times_below : Schema → ℕ → Val → Forest SchemaNode → Tree → ℕ
times_below schema number v children below = sum_by (times_in_use number v) (in_play (instances_in below) children)

abbrev pub times_at : Schema → ℕ → Val → Stored → Tree → ℕ
times_at schema number v s below =
    (if s.schema_number == number then (if is_value v (value_of schema s) then 1 else 0) else 0)
    + times_below schema number v (children_of schema s.schema_number) below

-- how many instances of a schema node have a value, defaults in use included
abbrev pub times_in : Schema → Tree → ℕ → Val → ℕ
times_in schema tree number v =
    times_below schema number v schema.nodes tree + weigh_nodes (times_at schema number v) tree

-- ---- tuples

abbrev pub absent_value : Kind → Option Val
absent_value (leaf type (default_used v)) = Some v
absent_value _ = None

-- a leaf's value, stored or in use; none where it is missing or invalid
abbrev pub leaf_value : Schema → ℕ → Option Stored → Option Val
leaf_value schema number (Some s) = value_of schema s
leaf_value schema number None = option_and_then (λ n. absent_value n.kind) (node_at schema number)

abbrev pub implied_row : Kind → Option Tree
implied_row (container false) = Some end
implied_row _ = None

-- the row in a container in play, stored or implied
abbrev pub container_row : Schema → ℕ → Option Tree → Option Tree
container_row schema number (Some below) = Some below
container_row schema number None = option_and_then (λ n. implied_row n.kind) (node_at schema number)

abbrev pub value_at : Schema → Tree → LeafPath → Option Val
value_at schema t [] = None
value_at schema t (number ∷ []) = leaf_value schema number (stored_in number t)
value_at schema t (number ∷ next ∷ path) =
    option_and_then (λ below. value_at schema below (next ∷ path)) (container_row schema number (row_in number t))

abbrev pub Tuple : Type 0
Tuple = List Val

abbrev pub tuple_at : Schema → Tree → List LeafPath → Option Tuple
tuple_at schema t [] = Some []
tuple_at schema t (path ∷ paths) =
    option_and_then (λ v. option_map (λ vs. v ∷ vs) (tuple_at schema t paths)) (value_at schema t path)

abbrev pub own_path : ℕ → LeafPath
own_path number = number ∷ []

-- the leafs of the key (0) or of a `unique`, from 1
abbrev pub paths_of : Tuples → ℕ → List LeafPath
paths_of tuples zero = map own_path tuples.keys
paths_of tuples (suc u) = unwrap_or (slice_get tuples.uniques u) []

-- none for a list without keys
abbrev pub tuple_of_paths : Schema → Tree → List LeafPath → Option Tuple
tuple_of_paths schema t [] = None
tuple_of_paths schema t (path ∷ paths) = tuple_at schema t (path ∷ paths)

abbrev pub kind_tuple : Schema → Kind → Tree → ℕ → Option Tuple
kind_tuple schema (list tuples amount) t u = tuple_of_paths schema t (paths_of tuples u)
kind_tuple schema _ t u = None

-- the tuple of an entry
abbrev pub tuple : Schema → Stored → Tree → ℕ → Option Tuple
tuple schema s below u = option_and_then (λ n. kind_tuple schema n.kind below u) (node_at schema s.schema_number)

abbrev pub same_tuple : Tuple → Tuple → Bool
same_tuple = pointwise same_value

abbrev pub is_tuple : Tuple → Option Tuple → Bool
is_tuple t u = option_map_or (same_tuple t) u false

-- how many entries of a list in a row have a tuple, and how many items of a leaf-list a value
abbrev pub tuples_in : Schema → Tree → ℕ → ℕ → Tuple → ℕ
tuples_in schema t number u vs = weigh_row (λ s below.
    if s.schema_number == number then (if is_tuple vs (tuple schema s below u) then 1 else 0) else 0) t

abbrev pub items_in : Schema → Tree → ℕ → Val → ℕ
items_in schema t number v = weigh_row (λ s below.
    if s.schema_number == number then (if is_value v (value_of schema s) then 1 else 0) else 0) t
