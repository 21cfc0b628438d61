-- The expressions that texts match, in words, and which of several a text breaks (RFC 7950, 9.4.5 and 9.4.6).
use Rattle.std.specs.Prelude.{◌++◌, Bool, List, [], ◌∷◌, codes, length, map, Option, Some, None, option_and_then, nat_lt, if◌then◌else◌}
use Rattle.serde_json.specs.Data.{string}
use Rattle.serde_json.specs.Written.{compact_text}
use Rattle.yspec.specs.text.Text.{Text}
use Rattle.yspec.specs.types.Types.{Raw, SimpleType}
use Rattle.ytype.specs.Patterns.{expressions_in, unmatched_by}
use Rattle.ysay_value.specs.Joining.{joined}

-- ---- what a type takes

-- `invert-match` takes the other texts
abbrev pub match_word : Bool → Text
match_word inverted = if inverted then codes "doesn't match " else codes "matches "

-- an expression in quotes, as JSON has it
abbrev pub expression_words : Text × Bool → Text
expression_words e = match_word e.1 ++ compact_text (string e.0)

abbrev pub all_words : List (Text × Bool) → Text
all_words es = joined (codes " and ") (map expression_words es)

-- behind the lengths of a text
abbrev pub expressions_words : List (Text × Bool) → Text
expressions_words [] = []
expressions_words (e ∷ es) = codes " that " ++ all_words (e ∷ es)

-- ---- what is said of a text that a type doesn't take

abbrev pub break_word : Bool → Text
break_word inverted = if inverted then codes ". It matches " else codes ". It doesn't match "

abbrev pub broken_words : Text × Bool → Text
broken_words e = break_word e.1 ++ (compact_text (string e.0) ++ codes ".")

-- the expression that excludes a value, of a type that has several
abbrev pub broken_of : SimpleType → Raw → Option (Text × Bool)
broken_of type raw = if nat_lt (length (expressions_in type.limits)) 2 then None else unmatched_by type raw

abbrev pub only : List SimpleType → Option SimpleType
only (type ∷ []) = Some type
only _ = None

-- of the only one of some types
abbrev pub broken_among : List SimpleType → Raw → Option (Text × Bool)
broken_among members raw = option_and_then (λ type. broken_of type raw) (only members)
