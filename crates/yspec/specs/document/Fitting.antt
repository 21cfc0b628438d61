-- Documents that fit a schema (RFC 7950, 8.1), and how the nodes of a schema are numbered.
use Rattle.std.specs.Prelude.{◌≡◌, ◌≤◌, ℕ, suc, ◌+◌, true, Option, Some, if◌then◌else◌}
use Rattle.yspec.specs.Forest.{Forest, end, node, size}
use Rattle.yspec.specs.types.Types.{Raw}
use Rattle.yspec.specs.schema.Schema.{Schema, SchemaNode, Kind, is_many, has_value, data_row, child_in}
use Rattle.yspec.specs.document.Document.{Tree}

-- the numbers count up in preorder, from the first
abbrev pub IsNumbered : ℕ → Forest SchemaNode → Type 0
IsNumbered next end = Unit {0}
IsNumbered next (node n below after) =
    (n.number ≡ next) × IsNumbered (next + 1) below × IsNumbered (next + 1 + size below) after

-- a leaf and a leaf-list have no children (RFC 7950, 7.6 and 7.7)
abbrev pub IsBare : Kind → Forest SchemaNode → Type 0
IsBare kind below = (has_value kind ≡ true) → below ≡ end

abbrev pub LeafsAreBare : Forest SchemaNode → Type 0
LeafsAreBare end = Unit {0}
LeafsAreBare (node n below after) = IsBare n.kind below × LeafsAreBare below × LeafsAreBare after

-- the least number that may follow a stored node: of a list or leaf-list more instances may
abbrev pub next_after : SchemaNode → ℕ
next_after n = if is_many n.kind then n.number else suc n.number

-- Each node of a stored row is an instance of a data node of a schema row, and `Held` says which values it may have; what
-- stands below it fits that node's children; and they stand in the order of their numbers, from a least one on.
abbrev pub FitsBy : (SchemaNode → Option Raw → Type 0) → Forest SchemaNode → ℕ → Tree → Type 0
FitsBy Held children least end = Unit {0}
FitsBy Held children least (node s below after) = (found : SchemaNode × Forest SchemaNode)
    × (child_in (data_row children) s.schema_number ≡ Some found) × (least ≤ s.schema_number) × Held found.0 s.value
    × FitsBy Held found.1 0 below × FitsBy Held children (next_after found.0) after

-- whatever its leafs hold
abbrev pub Fits : Schema → Tree → Type 0
Fits schema tree = FitsBy (λ n value. Unit {0}) schema.nodes 0 tree
