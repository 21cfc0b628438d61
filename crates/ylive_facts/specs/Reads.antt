-- How many reading calls find what a stored node holds and what is in play in a row, at most, by their schema nodes.
use Rattle.std.specs.Prelude.{ℕ, zero, suc, ◌+◌, ◌*◌, List, length, sum_by, if◌then◌else◌}
use Rattle.std.specs.List.{range_with_len}
use Rattle.std.specs.Option.{option_map_or}
use Rattle.yspec.specs.Forest.{Forest, end, node}
use Rattle.yspec.specs.schema.Schema.{Schema, SchemaNode, Kind, list, choice, LeafPath, node_at}
use Rattle.yspec.specs.document.Instances.{paths_of}
use Rattle.yspec_reach.specs.Sizes.{name_count, near_count, starts_anew}
use Rattle.ystore.specs.Store.{label_at}
use Rattle.ystore_rows.specs.declared.row.NodeId.{NodeId}
use Rattle.ystore.specs.declared.nodes.Nodes.{Nodes}

-- ---- keys

-- the values to which paths lead: a call for each step, and one for the value
abbrev pub path_reads : List LeafPath → ℕ
path_reads = sum_by (λ path. length path + 1)

-- the key at a slot of a node
abbrev pub slot_reads : Kind → ℕ → ℕ
slot_reads (list tuples amount) zero = 2 * length tuples.keys
slot_reads (list tuples amount) (suc u) = path_reads (paths_of tuples u)
slot_reads _ slot = 1

abbrev pub key_reads : Schema → ℕ → ℕ → ℕ
key_reads schema number slot = option_map_or (λ n. slot_reads n.kind slot) (node_at schema number) 0

-- those at so many slots, from the first on
abbrev pub keys_reads : Schema → ℕ → ℕ → ℕ
keys_reads schema number slots = sum_by (key_reads schema number) (range_with_len 0 slots)

-- how many names stand in the key and the uniques of a schema node
abbrev pub names_of : Schema → ℕ → ℕ
names_of schema number = option_map_or (λ n. name_count n.kind) (node_at schema number) 0

-- and of that of a stored node
abbrev pub names_at : Schema → Nodes → NodeId → ℕ
names_at schema nodes id = option_map_or (λ l. names_of schema l.schema.0) (label_at nodes id) 0

-- ---- what is in play

-- whether any node is stored in one of these: a call for each schema node that is near below each
abbrev pub cases_reads : Forest SchemaNode → ℕ
cases_reads end = 0
cases_reads (node n below after) = near_count below + cases_reads after

-- which cases a choice has stored
abbrev pub choice_reads : Kind → Forest SchemaNode → ℕ
choice_reads (choice default_case is_mandatory) cases = cases_reads cases
choice_reads _ below = 0

-- what is in play in a row: a call for each schema node of it, and what is in play there with what is near below it
abbrev pub play_reads : Forest SchemaNode → ℕ
play_reads end = 0
play_reads (node n below after) =
    1 + ((if starts_anew n.kind then 0 else choice_reads n.kind below + play_reads below) + play_reads after)
