-- What a type takes, in words (RFC 7950, 9; in the forms of documents, RFC 7951, 6).
use Rattle.std.specs.Prelude.{ℕ, ◌++◌, ◌==◌, ◌&&◌, ℤ, Bool, List, [], codes, decimal, map, if◌then◌else◌}
use Rattle.std.specs.List.{list_all}
use Rattle.std.specs.Ordering.{int_eq}
use Rattle.serde_json.specs.Data.{string}
use Rattle.serde_json.specs.Written.{compact_text}
use Rattle.yspec.specs.text.Text.{Text}
use Rattle.yspec.specs.types.Names.{Assigned}
use Rattle.yspec.specs.types.Numerals.{integer_text, decimal_text}
use Rattle.yspec.specs.types.Ranges.{Part}
use Rattle.yspec.specs.types.Restriction.{lengths, left_by, members_of}
use Rattle.yspec.specs.types.Types.{Integer, numbers_of, int64, is_written_as_text, Base, integer_base, decimal_base, string_base, boolean_base, empty_base, enumeration_base, bits_base, identity_base, binary_base, SimpleType, YangType}
use Rattle.ysay_value.specs.Joining.{joined}
use Rattle.ytype.specs.Patterns.{expressions_in}
use Rattle.ysay_value.specs.IdentityWords.{names_taken, identity_words}
use Rattle.ysay_value.specs.ExpressionWords.{expressions_words}

-- ---- the numbers that restrictions leave

abbrev pub number_words : Base → ℤ → Text
number_words (decimal_base digits) z = decimal_text digits z
number_words _ z = integer_text z

-- one number, or the numbers from one to another
abbrev pub part_words : Base → Part → Text
part_words base p = if int_eq p.low p.high then number_words base p.low
    else number_words base p.low ++ (codes ".." ++ number_words base p.high)

-- no text is longer than the greatest length
abbrev pub length_words : Part → Text
length_words p = if int_eq p.high lengths.high then integer_text p.low ++ codes " or more" else part_words string_base p

abbrev pub numbers_words : Base → List Part → Text
numbers_words base parts = joined (codes " | ") (map (part_words base) parts)

-- every length lies between the least and the greatest
abbrev pub is_any_length : Part → Bool
is_any_length p = int_eq p.low lengths.low && int_eq p.high lengths.high

abbrev pub all_lengths_words : List Part → Text
all_lengths_words parts = joined (codes " | ") (map length_words parts)

abbrev pub lengths_words : List Part → Text
lengths_words parts =
    if list_all is_any_length parts then [] else codes " of length " ++ all_lengths_words parts

-- ---- built-in types

abbrev pub form_words : Integer → Text
form_words i = if is_written_as_text i then codes "in quotes" else codes "without quotes"

abbrev pub integer_words : Integer → List Part → Text
integer_words i parts =
    codes "an integer " ++ (form_words i ++ (codes " in " ++ numbers_words (integer_base i) parts))

abbrev pub digits_words : ℕ → Text
digits_words n = if n == 1 then codes "1 digit" else decimal n ++ codes " digits"

abbrev pub decimal_words : ℕ → List Part → Text
decimal_words digits parts = codes "a number in quotes, with at most " ++ (digits_words digits
    ++ (codes " after the point, in " ++ numbers_words (decimal_base digits) parts))

abbrev pub enum_words : List Assigned → Text
enum_words names = codes "one of " ++ joined (codes ", ") (map (λ a. compact_text (string a.name)) names)

abbrev pub bits_words : List Assigned → Text
bits_words names = codes "names in quotes, parted by spaces and each once, of: " ++ joined (codes ", ") (map (λ a. a.name) names)

-- how many octets there are, where not every length is left
abbrev pub octets_words : List Part → Text
octets_words parts = if list_all is_any_length parts then codes "base64 in quotes"
    else codes "base64 in quotes, of " ++ (all_lengths_words parts ++ codes " octets")

-- ---- types

-- with what their restrictions leave of the built-in type
abbrev pub base_words : Base → SimpleType → Text
base_words (integer_base i) type = integer_words i (left_by (numbers_of i) type.limits)
base_words (decimal_base digits) type = decimal_words digits (left_by (numbers_of int64) type.limits)
base_words string_base type = codes "a text in quotes"
    ++ (lengths_words (left_by lengths type.limits) ++ expressions_words (expressions_in type.limits))
base_words boolean_base type = codes "true or false without quotes"
base_words empty_base type = codes "[null]"
base_words (enumeration_base names) type = enum_words names
base_words (bits_base names) type = bits_words names
base_words (identity_base home identities numbers) type = identity_words (names_taken (identity_base home identities numbers))
base_words binary_base type = octets_words (left_by lengths type.limits)

abbrev pub simple_words : SimpleType → Text
simple_words type = base_words type.base type

-- what one of its members takes
abbrev pub taken_words : YangType → Text
taken_words type = joined (codes " or ") (map simple_words (members_of type.shape))
