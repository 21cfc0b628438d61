-- What the parts of an edit share with the nodes outside them: values that are referred to (RFC 7950, 9.9), tuples of keys
-- and uniques (7.8.2, 7.8.3) and values of items (7.7).
use Rattle.std.specs.Prelude.{ℕ, ◌+◌, ◌==◌, ◌||◌, not, Bool, false, List, [], ◌∷◌, length, map, nat_lt, sum_by, Option, Some, None, option_and_then, if◌then◌else◌}
use Rattle.std.specs.Option.{option_map_or}
use Rattle.std.specs.List.{last_or, range_with_len}
use Rattle.yspec.specs.Forest.{end, node, weigh, weigh_nodes, first_of}
use Rattle.yspec.specs.types.Types.{Val}
use Rattle.yspec.specs.schema.Schema.{Schema, SchemaNode, Kind, list, node_at, row_at}
use Rattle.yspec.specs.document.Document.{Stored, Tree, Step}
use Rattle.yspec.specs.document.Instances.{value_of, is_value, items_in, times_at, times_below, Tuple, tuple, kind_tuple, is_tuple, tuples_in}
use Rattle.yspec.specs.edit.Edit.{instance_index}
use Rattle.yspec.specs.edit.Editing as editing
use Rattle.yspec_reach.specs.Parts.{Exchange, outside, exchanged, row_after}
use Rattle.yspec_reach.specs.Referring.{reference_of}

-- ---- values

-- how many instances of a schema node in a part have a value, defaults in use included
abbrev pub times_inside : Schema → ℕ → Val → Tree → ℕ
times_inside schema number v part = weigh_nodes (times_at schema number v) part

-- how often a value is a default of a schema node that is in use in a row there
abbrev pub times_used : Schema → Exchange → ℕ → Val → Tree → ℕ
times_used schema x number v row =
    times_below schema number v (row_at schema (last_or None (map (λ step. step.schema_number) x.target.above))) row

-- A value of a schema node is shared where an instance in either part has it, and where it is a default that is in use outside
-- the parts in one of the two trees alone. That comes about in the row of the edit only, and there the defaults of a schema
-- node are in use all or none.
abbrev pub is_shared_value : Schema → Exchange → ℕ → Val → Bool
is_shared_value schema x number v = nat_lt 0 (times_inside schema number v x.old + times_inside schema number v x.new)
    || not (times_used schema x number v x.target.row == times_used schema x number v (row_after x))

-- whether a leaf or item refers to such a value
abbrev pub shares_value : Schema → Exchange → Stored → Bool
shares_value schema x s = option_map_or (λ r. is_shared_value schema x r.0 r.1) (reference_of schema s) false

abbrev pub value_pairs : Schema → Exchange → Tree → ℕ
value_pairs schema x tree = weigh (λ s. if shares_value schema x s then 1 else 0) (outside x tree)

-- ---- tuples and items

-- how many have the one thing or the other, either of which may be missing, where so many have each; what is both counts once
abbrev pub have_either : {A : Type 0} → (A → Option A → Bool) → (A → ℕ) → (A → ℕ) → Option A → Option A → ℕ
have_either is_the old_times new_times old new =
    option_map_or old_times old 0 + option_map_or (λ thing. if is_the thing old then 0 else new_times thing) new 0

-- the tuples of an entry: that of the key, and one of each `unique`
abbrev pub tuple_count : Kind → ℕ
tuple_count (list tuples amount) = 1 + length tuples.uniques
tuple_count _ = 0

-- how many entries of a list have a tuple of an old or a new entry, the old ones counted in one row, the new ones in another
abbrev pub tuple_pairs : Schema → SchemaNode → Tree → Tree → (ℕ → Option Tuple) → (ℕ → Option Tuple) → ℕ
tuple_pairs schema n before after old new = sum_by (λ u. have_either is_tuple (tuples_in schema before n.number u)
    (tuples_in schema after n.number u) (old u) (new u)) (range_with_len 0 (tuple_count n.kind))

-- ---- beside the edited node

-- the tuples and the value of the node at the top of a part
abbrev pub part_tuple : Schema → Tree → ℕ → Option Tuple
part_tuple schema end u = None
part_tuple schema (node s below after) u = tuple schema s below u

abbrev pub part_value : Schema → Tree → Option Val
part_value schema end = None
part_value schema (node s below after) = value_of schema s

-- the entries and items beside it that have one of these; what stands deeper in a part has no fellows outside it
abbrev pub beside_pairs : Schema → Exchange → ℕ
beside_pairs schema x = let n = x.target.last.schema_node in let row = x.without_old x.target.row in
    let times = items_in schema row n.number in
    tuple_pairs schema n row row (part_tuple schema x.old) (part_tuple schema x.new)
    + have_either is_value times times (part_value schema x.old) (part_value schema x.new)

-- ---- the entry nearest above it

-- the step to an entry, its list, and the row in which it stands, before and after
pub record Entry : Type 0 where
  pub step : Step
  pub list_node : SchemaNode
  pub before : Tree
  pub after : Tree

abbrev pub entry_of : Kind → Entry → Option Entry
entry_of (list tuples amount) e = Some e
entry_of _ e = None

abbrev pub row_below : Step → Tree → Tree
row_below step row = editing.row_at step.schema_number (instance_index step) row

-- that which is nearest above the row to which steps lead
abbrev pub nearest_entry : Schema → List Step → Tree → Tree → Option Entry
nearest_entry schema [] before after = None
nearest_entry schema (step ∷ steps) before after =
    first_of (nearest_entry schema steps (row_below step before) (row_below step after))
    (option_and_then (λ n. entry_of n.kind (record { step = step; list_node = n; before = before; after = after }))
    (node_at schema step.schema_number))

-- the entries of its row, itself included, that have one of its tuples
abbrev pub entry_pairs : Schema → Entry → ℕ
entry_pairs schema e = tuple_pairs schema e.list_node e.before e.after
    (kind_tuple schema e.list_node.kind (row_below e.step e.before)) (kind_tuple schema e.list_node.kind (row_below e.step e.after))

-- ---- all

-- the pairs of a node outside the parts and a value or tuple of these that it has in either tree
abbrev pub shared : Schema → Exchange → Tree → ℕ
shared schema x tree = value_pairs schema x tree + (beside_pairs schema x
    + option_map_or (entry_pairs schema) (nearest_entry schema x.target.above tree (exchanged x tree)) 0)
