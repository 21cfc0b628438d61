-- A list with a key, whose entries have a mandatory choice and a container that is implied, and a leaf-list that wants an
-- item, as a worked example.
use Rattle.std.specs.Prelude.{ℕ, pos, true, false, [], ◌∷◌, Option, Some, None, codes}
use Rattle.yspec.specs.Forest.{Forest, end, node}
use Rattle.yspec.specs.types.Types.{Raw, text, Val, value, number_value, integer_base, uint8, string_base, plain}
use Rattle.yspec.specs.schema.Schema.{Schema, SchemaNode, Kind, container, leaf, leaf_list, list, choice, case, allowed, default_used, mandatory, key, Amount, LeafType, own_type, current}
use Rattle.yspec.specs.document.Document.{Stored, Tree}

abbrev pub node_of : ℕ → Kind → SchemaNode
node_of number kind =
    record { number = number; module_number = 0; name = codes "n"; config = true; distinct_items = true; status = current; kind = kind }

abbrev pub words : LeafType
words = own_type (codes "string") (plain string_base)

abbrev pub numbers : LeafType
numbers = own_type (codes "uint8") (plain (integer_base uint8))

abbrev pub any_amount : Amount
any_amount = record { min_elements = 0; max_elements = None }

abbrev pub at_least : ℕ → Amount
at_least count = record { min_elements = count; max_elements = None }

abbrev pub three : Val
three = value None (number_value (pos 3))

-- a leaf in a case, and a container with a mandatory leaf beside a leaf-list of two items at least in another
abbrev pub cases_below : Forest SchemaNode
cases_below = node (node_of 3 case) (node (node_of 4 (leaf numbers allowed)) end end)
    (node (node_of 5 case)
    (node (node_of 6 (container false)) (node (node_of 7 (leaf words mandatory)) end end)
    (node (node_of 8 (leaf_list numbers [] (at_least 2))) end end)) end)

-- a mandatory leaf, and one with a default
abbrev pub container_below : Forest SchemaNode
container_below =
    node (node_of 10 (leaf words mandatory)) end (node (node_of 11 (leaf numbers (default_used three))) end end)

abbrev pub entry_row : Forest SchemaNode
entry_row = node (node_of 1 (leaf words key)) end
    (node (node_of 2 (choice None true)) cases_below
    (node (node_of 9 (container false)) container_below end))

abbrev pub schema : Schema
schema = record {
  modules = record { name = codes "m"; prefix = codes "p"; augments = [] } ∷ [];
  nodes = node (node_of 0 (list (record { keys = 1 ∷ []; uniques = [] }) any_amount)) entry_row
      (node (node_of 12 (leaf_list numbers (three ∷ three ∷ []) (at_least 1))) end end);
}

abbrev pub stored : ℕ → Option Raw → Stored
stored number value = record { schema_number = number; value = value }

-- an entry without its key that has a leaf of each case, both without a valid value
abbrev pub keyless : Tree
keyless = node (stored 4 (Some (text (codes "x")))) end (node (stored 8 (Some (text (codes "y")))) end end)

-- an entry that has its key alone
abbrev pub bare : Tree
bare = node (stored 1 (Some (text (codes "k")))) end end

abbrev pub tree : Tree
tree = node (stored 0 None) keyless (node (stored 0 None) bare end)
