-- The texts of values.
use Rattle.std.specs.Prelude.{ℕ, ◌++◌, ◌==◌, ◌||◌, Bool, [], codes, Option, Some, if◌then◌else◌, nat_lt}
use Rattle.std.specs.List.{list_any}
use Rattle.serde_json.specs.Data.{string}
use Rattle.serde_json.specs.Written.{compact_text}
use Rattle.yspec.specs.text.Text.{Text, single_quote, space}
use Rattle.yspec.specs.types.Types.{Raw, text, empty}
use Rattle.yspec.specs.schema.Schema.{by_type}
use Rattle.yspec.specs.document.Writing.{leaf_data}

-- the value of a leaf or an item as its document has it
abbrev pub value_text : Option Raw → Text
value_text value = compact_text (leaf_data by_type value)

-- the same without the quotes of a text; that of `empty` is no text (RFC 7950, 9.11)
abbrev pub bare_text : Option Raw → Text
bare_text (Some (text t)) = t
bare_text (Some empty) = []
bare_text value = value_text value

-- a single quote, or a character that would break a line
abbrev pub breaks_quotes : ℕ → Bool
breaks_quotes c = c == single_quote || nat_lt c space

-- a text in single quotes; one with a character that breaks them, in double quotes as in JSON
abbrev pub quoted : Text → Text
quoted t = if list_any breaks_quotes t then compact_text (string t) else codes "'" ++ (t ++ codes "'")
