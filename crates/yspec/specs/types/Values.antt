-- Values as texts: what a module writes as a default, and canonical texts (RFC 7950, 9.1 and 9.2 to 9.12).
use Rattle.std.specs.Prelude.{ℕ, ℤ, Bool, true, false, List, [], ◌∷◌, ◌++◌, codes, slice_get, Option, Some, None, option_and_then, find, filter, if◌then◌else◌}
use Rattle.std.specs.List.{list_any}
use Rattle.std.specs.Ordering.{int_eq}
use Rattle.std.specs.Option.{option_map_or}
use Rattle.yspec.specs.text.Text.{Text, is_text, space}
use Rattle.yspec.specs.types.Numerals.{default_integer_of, integer_text, decimal_text}
use Rattle.yspec.specs.types.Names.{Assigned}
use Rattle.yspec.specs.types.Identities.{ModuleNames, name_stated}
use Rattle.yspec.specs.types.Octets.{base64_text}
use Rattle.yspec.specs.types.Types.{Content, text_value, number_value, bool_value, empty_value, bits_value, octets_value, Val, Base, integer_base, decimal_base, string_base, boolean_base, empty_base, enumeration_base, bits_base, identity_base, binary_base, identity_named, is_numbered, SimpleType, Shape, single, union, YangType, number_within, numbers_of, text_taken, limited, shape_value}

-- ---- texts of a module

abbrev pub bool_of : Text → Option Content
bool_of t = if is_text t (codes "true") then Some (bool_value true)
    else (if is_text t (codes "false") then Some (bool_value false) else None)

-- an integer may be hexadecimal or octal; an `empty` has no text; an identity is named as the module names others
abbrev pub base_read : ModuleNames → Base → Text → Option Content
base_read names (integer_base i) t = option_and_then (number_within (numbers_of i)) (default_integer_of t)
base_read names (decimal_base digits) t = text_taken (decimal_base digits) t
base_read names string_base t = text_taken string_base t
base_read names boolean_base t = bool_of t
base_read names empty_base t = None
base_read names (enumeration_base enums) t = text_taken (enumeration_base enums) t
base_read names (bits_base bits) t = text_taken (bits_base bits) t
base_read names (identity_base home identities numbers) t = option_and_then (identity_named identities numbers) (name_stated names t)
base_read names binary_base t = text_taken binary_base t

abbrev pub simple_read : ModuleNames → SimpleType → Text → Option Content
simple_read names type t = option_and_then (limited type.limits) (base_read names type.base t)

-- the value of a text of a module, as a default is one
abbrev pub value_of_text : ModuleNames → YangType → Text → Option Val
value_of_text names type t = shape_value (λ s. simple_read names s t) type.shape

-- ---- canonical texts

abbrev pub name_of_number : List Assigned → ℤ → Text
name_of_number names z = option_map_or (λ a. a.name) (find (λ a. int_eq a.number z) names) []

-- names with single spaces between them, of which the first may follow nothing
abbrev pub spaced_from : Bool → List Assigned → Text
spaced_from first [] = []
spaced_from first (a ∷ names) = (if first then a.name else space ∷ a.name) ++ spaced_from false names

abbrev pub names_at : List ℤ → List Assigned → List Assigned
names_at positions names = filter (λ a. is_numbered positions a.number) names

abbrev pub bool_text : Bool → Text
bool_text true = codes "true"
bool_text false = codes "false"

abbrev pub number_text : Base → ℤ → Text
number_text (decimal_base digits) z = decimal_text digits z
number_text (enumeration_base names) z = name_of_number names z
number_text (identity_base home identities numbers) z = name_of_number identities z
number_text _ z = integer_text z

abbrev pub bits_text : Base → List ℤ → Text
bits_text (bits_base names) positions = spaced_from true (names_at positions names)
bits_text _ positions = []

abbrev pub content_text : Base → Content → Text
content_text b (text_value t) = t
content_text b (number_value z) = number_text b z
content_text b (bool_value v) = bool_text v
content_text b empty_value = []
content_text b (bits_value positions) = bits_text b positions
content_text b (octets_value octets) = base64_text octets

-- the type that took a value
abbrev pub taker : Shape → Option ℕ → Option SimpleType
taker (single s) member = Some s
taker (union members) None = None
taker (union members) (Some n) = slice_get members n

-- the canonical text of a value of a type
abbrev pub canonical : YangType → Val → Text
canonical type v = option_map_or (λ s. content_text s.base v.content) (taker type.shape v.member) []
