-- Types, and the values that they take (RFC 7950, 9; the forms of JSON by RFC 7951, 6).
use Rattle.std.specs.Prelude.{ℕ, ◌+◌, ◌-◌, ◌^◌, ℤ, pos, negsuc, Bool, true, false, not, ◌||◌, ◌==◌, List, [], ◌∷◌, length, map, Option, Some, None, is_some, option_map, option_and_then, find, if◌then◌else◌}
use Rattle.std.specs.List.{list_all, list_any}
use Rattle.std.specs.Option.{option_map_or}
use Rattle.std.specs.Ordering.{int_eq}
use Rattle.std.specs.Str.{chars}
use Rattle.yspec_patterns.specs.Pattern.{accepts}
use Rattle.yspec_patterns.specs.Reading.{pattern_of}
use Rattle.yspec.specs.text.Text.{Text, is_text, is_yang_char, carriage_return}
use Rattle.yspec.specs.types.Ranges.{Part, ErrorText, Test, within, matching, Limit, holds, lies_in}
use Rattle.yspec.specs.types.Numerals.{integer_of, decimal_of}
use Rattle.yspec.specs.types.Names.{Assigned, words_of, are_bit_names, named_by, positions_of}
use Rattle.yspec.specs.types.Identities.{name_within}
use Rattle.yspec.specs.types.Octets.{octets_of}

-- what a document has at a leaf
pub data Raw : Type 0 where
  text : Text → Raw
  int : ℤ → Raw
  bool : Bool → Raw
  empty : Raw

-- what a type makes of it
pub data Content : Type 0 where
  text_value : Text → Content
  -- an integer, the number of an enum or of an identity, or a decimal64 in units of its last digit
  number_value : ℤ → Content
  bool_value : Bool → Content
  empty_value : Content
  -- the positions of the bits that are set, ascending
  bits_value : List ℤ → Content
  octets_value : List ℕ → Content

-- a value of a union bears also the number of the member that took it, from 0
pub record Val : Type 0 where
  pub member : Option ℕ
  pub content : Content

-- ---- types

pub data Integer : Type 0 where
  int8 : Integer
  int16 : Integer
  int32 : Integer
  int64 : Integer
  uint8 : Integer
  uint16 : Integer
  uint32 : Integer
  uint64 : Integer

-- RFC 7950, 9.2
abbrev pub numbers_of : Integer → Part
numbers_of int8 = record { low = negsuc (2 ^ 7 - 1); high = pos (2 ^ 7 - 1) }
numbers_of int16 = record { low = negsuc (2 ^ 15 - 1); high = pos (2 ^ 15 - 1) }
numbers_of int32 = record { low = negsuc (2 ^ 31 - 1); high = pos (2 ^ 31 - 1) }
numbers_of int64 = record { low = negsuc (2 ^ 63 - 1); high = pos (2 ^ 63 - 1) }
numbers_of uint8 = record { low = pos 0; high = pos (2 ^ 8 - 1) }
numbers_of uint16 = record { low = pos 0; high = pos (2 ^ 16 - 1) }
numbers_of uint32 = record { low = pos 0; high = pos (2 ^ 32 - 1) }
numbers_of uint64 = record { low = pos 0; high = pos (2 ^ 64 - 1) }

-- those of 64 bits are strings in documents (RFC 7951, 6.1)
abbrev pub is_written_as_text : Integer → Bool
is_written_as_text int64 = true
is_written_as_text uint64 = true
is_written_as_text _ = false

-- a built-in type, or what a derived type begins with
pub data Base : Type 0 where
  integer_base : Integer → Base
  -- with so many digits after the point
  decimal_base : ℕ → Base
  string_base : Base
  boolean_base : Base
  empty_base : Base
  enumeration_base : List Assigned → Base
  bits_base : List Assigned → Base
  -- The identities of a set of modules by name, and the numbers of those that it takes; before them the name of the module
  -- of the leaf.
  identity_base : Text → List Assigned → List ℤ → Base
  binary_base : Base

-- a type that is no union: its restrictions stand from the built-in type outwards
pub record SimpleType : Type 0 where
  pub base : Base
  pub limits : List Limit

-- a union of unions has the members of all of them, in order (RFC 7950, 9.12)
pub data Shape : Type 0 where
  single : SimpleType → Shape
  union : List SimpleType → Shape

-- A leafref has the shape of its target's type, and says whether it requires an instance (RFC 7950, 9.9).
pub record YangType : Type 0 where
  pub shape : Shape
  pub requires_instance : Option Bool

abbrev pub plain : Base → YangType
plain b = record { shape = single (record { base = b; limits = [] }); requires_instance = None }

abbrev pub integer_type : Integer → YangType
integer_type i = plain (integer_base i)

abbrev pub string_type : YangType
string_type = plain string_base

abbrev pub uint8_type : YangType
uint8_type = integer_type uint8

-- ---- what a built-in type takes

-- A string holds the characters of a module's text, and carriage returns anywhere (RFC 7950, 9.4).
abbrev pub is_string_char : ℕ → Bool
is_string_char c = is_yang_char c || c == carriage_return

abbrev pub is_string_value : Text → Bool
is_string_value t = list_all is_string_char (chars t)

abbrev pub number_within : Part → ℤ → Option Content
number_within numbers z = if lies_in z numbers then Some (number_value z) else None

-- numbers, and strings for 64 bits (RFC 7950, 9.2; RFC 7951, 6.1)
abbrev pub integer_taken : Integer → Raw → Option Content
integer_taken i (int z) = if is_written_as_text i then None else number_within (numbers_of i) z
integer_taken i (text t) =
    if is_written_as_text i then option_and_then (number_within (numbers_of i)) (integer_of t) else None
integer_taken i (bool b) = None
integer_taken i empty = None

-- 64 bits signed, in units of the last digit (RFC 7950, 9.3)
abbrev pub decimal_taken : ℕ → Text → Option Content
decimal_taken digits t = option_and_then (number_within (numbers_of int64)) (decimal_of digits t)

-- RFC 7950, 9.6
abbrev pub enum_taken : List Assigned → Text → Option Content
enum_taken names t = option_map (λ a. number_value a.number) (find (λ a. is_text t a.name) names)

-- names parted by spaces, none twice (RFC 7950, 9.7.2)
abbrev pub bits_taken : List Assigned → List Text → Option Content
bits_taken names words = if are_bit_names names words
    then Some (bits_value (positions_of (named_by names words))) else None

abbrev pub is_numbered : List ℤ → ℤ → Bool
is_numbered numbers z = list_any (λ n. int_eq n z) numbers

abbrev pub identity_if_taken : List ℤ → Assigned → Option Content
identity_if_taken numbers a = if is_numbered numbers a.number then Some (number_value a.number) else None

-- the identity of a name, where it is one of those of some numbers (RFC 7950, 9.10)
abbrev pub identity_named : List Assigned → List ℤ → Text → Option Content
identity_named identities numbers name = option_and_then (identity_if_taken numbers) (find (λ a. is_text name a.name) identities)

abbrev pub string_taken : Text → Option Content
string_taken t = if is_string_value t then Some (text_value t) else None

-- RFC 7950, 9.8
abbrev pub octets_taken : Text → Option Content
octets_taken t = option_map octets_value (octets_of t)

-- what a type that is written as a string takes
abbrev pub text_taken : Base → Text → Option Content
text_taken (integer_base i) t = None
text_taken (decimal_base digits) t = decimal_taken digits t
text_taken string_base t = string_taken t
text_taken boolean_base t = None
text_taken empty_base t = None
text_taken (enumeration_base names) t = enum_taken names t
text_taken (bits_base names) t = bits_taken names (words_of t)
text_taken (identity_base home identities numbers) t = identity_named identities numbers (name_within home t)
text_taken binary_base t = octets_taken t

abbrev in_text : Raw → (Text → Option Content) → Option Content
in_text (text t) taken = taken t
in_text _ taken = None

-- RFC 7950, 9.5
abbrev bool_taken : Raw → Option Content
bool_taken (bool b) = Some (bool_value b)
bool_taken _ = None

-- RFC 7950, 9.11
abbrev empty_taken : Raw → Option Content
empty_taken empty = Some empty_value
empty_taken _ = None

abbrev pub base_taken : Base → Raw → Option Content
base_taken (integer_base i) raw = integer_taken i raw
base_taken (decimal_base digits) raw = in_text raw (decimal_taken digits)
base_taken string_base raw = in_text raw string_taken
base_taken boolean_base raw = bool_taken raw
base_taken empty_base raw = empty_taken raw
base_taken (enumeration_base names) raw = in_text raw (enum_taken names)
base_taken (bits_base names) raw = in_text raw (λ t. bits_taken names (words_of t))
base_taken (identity_base home identities numbers) raw = in_text raw (λ t. identity_named identities numbers (name_within home t))
base_taken binary_base raw = in_text raw octets_taken

-- ---- the module of a leaf

-- The types of a leaf of a module: plain names of identities are of that module (RFC 7951, 6.8).
abbrev pub base_in : Text → Base → Base
base_in home (identity_base other identities numbers) = identity_base home identities numbers
base_in home b = b

abbrev pub simple_in : Text → SimpleType → SimpleType
simple_in home s = record s { base = base_in home s.base }

abbrev pub shape_in : Text → Shape → Shape
shape_in home (single s) = single (simple_in home s)
shape_in home (union members) = union (map (simple_in home) members)

abbrev pub type_in : Text → YangType → YangType
type_in home type = record type { shape = shape_in home type.shape }

-- ---- restrictions

-- what a range or length judges: a number, how many characters a text has, or how many octets there are
abbrev pub measure : Content → ℤ
measure (text_value t) = pos (length (chars t))
measure (number_value z) = z
measure (octets_value octets) = pos (length octets)
measure _ = pos 0

-- whether a text spells a pattern
unfoldable pub is_pattern : Text → Bool
is_pattern t = is_some (pattern_of (chars t))

-- whether the whole of a text is one of the pattern that another spells (RFC 7950, 9.4.5)
unfoldable pub is_match : Text → Text → Bool
is_match pattern t = option_map_or (λ p. accepts p (chars t)) (pattern_of (chars pattern)) false

abbrev pub is_taken_text : Text → Bool → Text → Bool
is_taken_text pattern inverted t = if inverted then not (is_match pattern t) else is_match pattern t

-- patterns judge texts alone
abbrev pub passes : Test → Content → Bool
passes (within parts) c = holds parts (measure c)
passes (matching pattern inverted) (text_value t) = is_taken_text pattern inverted t
passes (matching pattern inverted) _ = true

-- the first restriction that excludes a value
abbrev pub excluding : List Limit → Content → Option Limit
excluding limits c = find (λ l. not (passes l.test c)) limits

abbrev pub limited : List Limit → Content → Option Content
limited limits c = if is_some (excluding limits c) then None else Some c

abbrev pub simple_taken : SimpleType → Raw → Option Content
simple_taken type raw = option_and_then (limited type.limits) (base_taken type.base raw)

abbrev pub simple_excluding : SimpleType → Raw → Option Limit
simple_excluding type raw = option_and_then (excluding type.limits) (base_taken type.base raw)

abbrev error_of_limit : Limit → ErrorText
error_of_limit l = l.error

abbrev pub simple_error : SimpleType → Raw → Option ErrorText
simple_error type raw = option_map error_of_limit (simple_excluding type raw)

-- ---- unions

abbrev pub value : Option ℕ → Content → Val
value member c = record { member = member; content = c }

abbrev pub or_value : Option Val → Option Val → Option Val
or_value None later = later
or_value (Some v) later = Some v

-- the first member that gives a value, the members being numbered from a number on
abbrev pub first_value : (SimpleType → Option Content) → ℕ → List SimpleType → Option Val
first_value given number [] = None
first_value given number (m ∷ ms) =
    or_value (option_map (value (Some number)) (given m)) (first_value given (number + 1) ms)

abbrev pub shape_value : (SimpleType → Option Content) → Shape → Option Val
shape_value given (single s) = option_map (value None) (given s)
shape_value given (union members) = first_value given 0 members

-- the value that a type takes from what a document has, if it takes it
abbrev pub taken : YangType → Raw → Option Val
taken type raw = shape_value (λ s. simple_taken s raw) type.shape

abbrev shape_error : Shape → Raw → Option ErrorText
shape_error (single s) raw = simple_error s raw
shape_error (union members) raw = None

-- what the innermost restriction that excludes it says of what a document has; built-in types and unions say nothing
abbrev pub error_text_of : YangType → Raw → Option ErrorText
error_text_of type raw = shape_error type.shape raw

abbrev tag_in : ErrorText → Option Text
tag_in e = e.app_tag

abbrev message_in : ErrorText → Option Text
message_in e = e.message

-- its error-app-tag (RFC 7950, 7.5.4.2)
abbrev pub app_tag_of : YangType → Raw → Option Text
app_tag_of type raw = option_and_then tag_in (error_text_of type raw)

-- its error-message (RFC 7950, 7.5.4.1)
abbrev pub message_of : YangType → Raw → Option Text
message_of type raw = option_and_then message_in (error_text_of type raw)
