-- The measures of a schema and of a part of a document, by which it is bounded what an edit may read.
use Rattle.std.specs.Prelude.{ℕ, ◌+◌, Bool, true, false, length, max, sum_by, if◌then◌else◌}
use Rattle.std.specs.Option.{option_map_or}
use Rattle.yspec.specs.Forest as forest
use Rattle.yspec.specs.Forest.{Forest, end, node, weigh}
use Rattle.yspec.specs.schema.Schema.{Schema, SchemaNode, Kind, container, leaf, leaf_list, list, Absence, default_used, node_at, children_of}
use Rattle.yspec.specs.document.Document.{Stored, Tree}

-- ---- of a schema

-- how many names stand in the key and the uniques of a list
abbrev pub name_count : Kind → ℕ
name_count (list tuples amount) = length tuples.keys + sum_by length tuples.uniques
name_count _ = 0

-- how many schema nodes there are, and names in keys and uniques
abbrev pub breadth : Schema → ℕ
breadth schema = weigh (λ n. 1 + name_count n.kind) schema.nodes

abbrev pub absence_defaults : Absence → ℕ
absence_defaults (default_used v) = 1
absence_defaults _ = 0

abbrev pub default_count : Kind → ℕ
default_count (leaf type absence) = absence_defaults absence
default_count (leaf_list type defaults amount) = length defaults
default_count _ = 0

-- the greatest number of defaults that one node has
abbrev pub most_defaults : Forest SchemaNode → ℕ
most_defaults end = 0
most_defaults (node n below after) = max (default_count n.kind) (max (most_defaults below) (most_defaults after))

-- how deep it is, and how many defaults one node has at most
abbrev pub levels : Schema → ℕ
levels schema = forest.levels schema.nodes + most_defaults schema.nodes

-- ---- of a part

-- what stands below it is in play only where it is stored itself
abbrev pub starts_anew : Kind → Bool
starts_anew (list tuples amount) = true
starts_anew (container true) = true
starts_anew _ = false

-- how many schema nodes stand in a row and below it, down to and including the next lists and containers with presence
abbrev pub near_count : Forest SchemaNode → ℕ
near_count end = 0
near_count (node n below after) = 1 + ((if starts_anew n.kind then 0 else near_count below) + near_count after)

-- A stored node counts as one, with the schema nodes below its own as far as these, and an entry with the names in its
-- list's key and uniques; so a leaf or an item, below which nothing stands, counts as one alone.
abbrev pub weight : Schema → Stored → ℕ
weight schema s = 1 + (near_count (children_of schema s.schema_number)
    + option_map_or (λ n. name_count n.kind) (node_at schema s.schema_number) 0)

abbrev pub part_size : Schema → Tree → ℕ
part_size schema part = weigh (weight schema) part
