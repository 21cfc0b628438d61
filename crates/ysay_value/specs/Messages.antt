-- What a module says itself of a value that one of its restrictions excludes (RFC 7950, 7.5.4.1).
use Rattle.std.specs.Prelude.{ℕ, ◌++◌, [], codes, map, Option, Some, None, option_and_then, if◌then◌else◌}
use Rattle.std.specs.Str.{chars, encode_utf8_all}
use Rattle.yspec.specs.text.Text.{Text, space}
use Rattle.yspec.specs.types.Types.{Raw, message_of}
use Rattle.yspec.specs.schema.Schema.{Schema, LeafType, type_in, node_at}
use Rattle.ysay_text.specs.Control.{is_control}

abbrev pub type_at : Schema → ℕ → Option LeafType
type_at schema number = option_and_then (λ n. type_in n.kind) (node_at schema number)

abbrev pub message_by : LeafType → Option Raw → Option Text
message_by type value = option_and_then (message_of type.type) value

-- the message of the innermost restriction of a node's type that excludes a value
abbrev pub message_at : Schema → ℕ → Option Raw → Option Text
message_at schema number value = option_and_then (λ t. message_by t value) (type_at schema number)

-- a control character would break a line, or be obeyed by a terminal
abbrev pub printed_character : ℕ → ℕ
printed_character c = if is_control c then space else c

abbrev pub on_one_line : Text → Text
on_one_line t = encode_utf8_all (map printed_character (chars t))

abbrev pub message_words : Option Text → Text
message_words None = []
message_words (Some t) = codes " Its module says: " ++ on_one_line t
