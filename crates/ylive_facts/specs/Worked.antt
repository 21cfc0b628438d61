-- A list with a key of two leafs, one of which another leaf refers to, and a list without a key, as a worked example.
use Rattle.std.specs.Prelude.{ℕ, pos, true, [], ◌∷◌, Option, Some, None, codes}
use Rattle.yspec.specs.Forest.{end, node}
use Rattle.yspec.specs.types.Types.{Raw, int, text, Val, value, number_value, text_value, integer_base, uint8, string_base, plain}
use Rattle.yspec.specs.schema.Schema.{Schema, SchemaNode, Kind, leaf, list, allowed, key, Amount, LeafType, own_type, current, by_type}
use Rattle.yspec.specs.document.Document.{Stored, Tree}

abbrev node_of : ℕ → Kind → SchemaNode
node_of number kind =
    record { number = number; module_number = 0; name = codes "n"; config = true; distinct_items = true; status = current; kind = kind }

abbrev words : LeafType
words = own_type (codes "string") (plain string_base)

abbrev numbers : LeafType
numbers = own_type (codes "uint8") (plain (integer_base uint8))

abbrev references : LeafType
references = record {
  name = codes "leafref";
  type = record (plain (integer_base uint8)) { requires_instance = Some true };
  target = Some 1;
  targets = [];
  form = by_type;
}

abbrev any_amount : Amount
any_amount = record { min_elements = 0; max_elements = None }

-- the word of an entry stands before its number in the key
abbrev pub schema : Schema
schema = record {
  modules = record { name = codes "m"; prefix = codes "p"; augments = [] } ∷ [];
  nodes = node (node_of 0 (list (record { keys = 2 ∷ 1 ∷ []; uniques = [] }) any_amount))
      (node (node_of 1 (leaf numbers key)) end
      (node (node_of 2 (leaf words key)) end
      (node (node_of 3 (leaf references allowed)) end end)))
      (node (node_of 4 (list (record { keys = []; uniques = [] }) any_amount)) (node (node_of 5 (leaf words allowed)) end end) end);
}

abbrev pub stored : ℕ → Option Raw → Stored
stored number value = record { schema_number = number; value = value }

abbrev pub seven : Val
seven = value None (number_value (pos 7))

abbrev pub word : Val
word = value None (text_value (codes "a"))

-- an entry with both leafs of its key, one without the word, one with a number that is none, and one of the other list
abbrev pub whole : Tree
whole = node (stored 1 (Some (int (pos 7)))) end (node (stored 2 (Some (text (codes "a")))) end end)

abbrev pub wordless : Tree
wordless = node (stored 1 (Some (int (pos 7)))) end end

abbrev pub wrong : Tree
wrong = node (stored 1 (Some (text (codes "7")))) end (node (stored 2 (Some (text (codes "a")))) end end)

abbrev pub keyless : Tree
keyless = node (stored 5 (Some (text (codes "a")))) end end
