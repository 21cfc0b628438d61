-- What is written for one stored node with all that stands below it.
use Rattle.std.specs.Prelude.{Some}
use Rattle.std.specs.Option.{option_map_or}
use Rattle.serde_json.specs.Data.{Data, null, no_members}
use Rattle.serde_json.specs.Written.{compact_text}
use Rattle.yspec.specs.text.Text.{Text}
use Rattle.yspec.specs.schema.Schema.{Schema, node_at, children_of}
use Rattle.yspec.specs.document.Document.{Tree, Stored}
use Rattle.yspec.specs.document.Writing.{written_node, row_members}

-- of an entry or item, what stands for that one; `null` for a number that no node has
abbrev pub written_stored : Schema → Stored → Tree → Data
written_stored schema s below = option_map_or (λ n. written_node n.kind s.value
    (row_members schema (Some n.module_number) (children_of schema s.schema_number) below no_members)) (node_at schema s.schema_number) null

abbrev pub stored_text : Schema → Stored → Tree → Text
stored_text schema s below = compact_text (written_stored schema s below)
