-- What is told of a node's value by its type alone (RFC 7950, 8.3.1).
use Rattle.std.specs.Prelude.{Option, option_map, string_bytes}
use Rattle.std.specs.Option.{option_map_or}
use Rattle.yspec.specs.text.Text.{Text}
use Rattle.yspec.specs.types.Types.{Raw, YangType, taken, app_tag_of}
use Rattle.yspec.specs.schema.Schema.{Schema, type_in, node_at}
use Rattle.yspec.specs.document.Document.{Stored}
use Rattle.ystore.specs.declared.record.Judged as rust
use Rattle.ystore.specs.declared.record.Judged.TheVariants.{Right, Wrong, Missing}

-- nothing; V1 with an app-tag, if there is one; V11
pub data Judged : Type 0 where
  right : Judged
  wrong : Option Text → Judged
  missing : Judged

abbrev pub judged_view : rust.Judged → Judged
judged_view Right = right
judged_view (Wrong tag) = wrong (option_map string_bytes tag)
judged_view Missing = missing

-- whether a type takes a value
abbrev pub judged_by : YangType → Raw → Judged
judged_by type raw = option_map_or (λ v. right) (taken type raw) (wrong (app_tag_of type raw))

abbrev pub kind_judged : Option YangType → Option Raw → Judged
kind_judged type value = option_map_or (λ t. option_map_or (judged_by t) value right) type right

-- what is told of the value of a stored node but for what it refers to
abbrev pub value_judged : Schema → Stored → Judged
value_judged schema s = option_map_or (λ n. kind_judged (option_map (λ type. type.type) (type_in n.kind)) s.value) (node_at schema s.schema_number) right
