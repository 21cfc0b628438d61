-- What is said of a number that is no whole one of 64 bits, where a value of a leaf or of items is due (J6).
use Rattle.std.specs.Prelude.{ℕ, ◌++◌, [], codes, Option, option_and_then}
use Rattle.std.specs.Option.{option_map_or}
use Rattle.yspec.specs.text.Text.{Text}
use Rattle.yspec.specs.schema.Schema.{Schema, LeafType, JsonForm, by_type}
use Rattle.ysay_value.specs.Messages.{type_at}
use Rattle.ysay_value.specs.TakenWords.{taken_words}

-- of one where a type takes what it takes
abbrev pub number_for_type : LeafType → Text
number_for_type type = codes "a number with a point or an exponent, or beyond 64 bits, isn't a value of "
    ++ (type.name ++ (codes ": it takes " ++ (taken_words type.type ++ codes ".")))

-- of an `anydata` or `anyxml` the number stands somewhere in the value
abbrev pub number_by : JsonForm → LeafType → Text
number_by by_type type = number_for_type type
number_by _ type = codes "a number in it has a point or an exponent, or is beyond 64 bits."

-- by the number of the node
abbrev pub of_number : Schema → Option ℕ → Text
of_number schema number = option_map_or (λ t. number_by t.form t) (option_and_then (type_at schema) number) []
