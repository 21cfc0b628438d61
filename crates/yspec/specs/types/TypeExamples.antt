-- Worked examples of types: built-in types and restrictions whose values are known from the standard's rules.
use Rattle.std.specs.Prelude.{ℕ, ℤ, pos, Bool, true, false, List, [], ◌∷◌, codes, Option, Some, None, is_some, option_map, option_and_then}
use Rattle.std.specs.Option.{option_map_or}
use Rattle.yspec.specs.text.Text.{Text}
use Rattle.yspec.specs.types.Ranges.{Bound, least, greatest, number, Span, ErrorText}
use Rattle.yspec.specs.types.Names.{Naming, Assigned, enum_names, bit_names}
use Rattle.yspec.specs.types.Types.{Raw, text, Val, number_value, Integer, YangType, plain, integer_type, string_type, decimal_base, enumeration_base, bits_base, identity_base, taken, value, app_tag_of}
use Rattle.yspec.specs.types.Restriction.{Restriction, range, length, pattern, of_enums, of_bits, narrowed}
use Rattle.yspec.specs.types.Identities.{ModuleNames}
use Rattle.yspec.specs.types.Values.{value_of_text, canonical}

abbrev pub decimal : ℕ → YangType
decimal digits = plain (decimal_base digits)

-- what a string in a document prints as, where a type takes it
abbrev pub shown : YangType → Text → Option Text
shown type t = option_map (canonical type) (taken type (text t))

abbrev pub number_is : ℤ → Option Val
number_is z = Some (value None (number_value z))

-- the values of an integer's default
abbrev pub default_of : Integer → Text → Option Val
default_of i t = value_of_text (record { own = codes "m"; prefixed = [] }) (integer_type i) t

abbrev pub at : ℤ → Bound
at z = number z 0

abbrev pub from_to : ℤ → ℤ → Span
from_to low high = record { first = at low; last = at high }

abbrev pub one : ℤ → Span
one z = from_to z z

abbrev silent : ErrorText
silent = record { message = None; app_tag = None }

abbrev pub tagged : List Span → Text → Restriction
tagged spans tag = range spans (record { message = None; app_tag = Some tag })

abbrev pub explained : List Span → Text → Restriction
explained spans message = range spans (record { message = Some message; app_tag = None })

abbrev pub untagged : List Span → Restriction
untagged spans = range spans silent

abbrev pub measured : List Span → Restriction
measured spans = length spans silent

-- `min..5 | 7 | 9..max`
abbrev pub gaps : Restriction
gaps = untagged (record { first = least; last = at (pos 5) } ∷ one (pos 7) ∷ record { first = at (pos 9); last = greatest } ∷ [])

-- a type with a restriction after another
abbrev pub twice_narrowed : YangType → Restriction → Restriction → Option YangType
twice_narrowed type inner outer = option_and_then (λ t. narrowed t outer) (narrowed type inner)

-- a type with restrictions, from the innermost outwards
abbrev pub all_narrowed : YangType → List Restriction → Option YangType
all_narrowed type [] = Some type
all_narrowed type (r ∷ rs) = option_and_then (λ t. all_narrowed t rs) (narrowed type r)

abbrev pub with_tag : Text → ErrorText
with_tag t = record { message = None; app_tag = Some t }

abbrev pub matched : Text → Restriction
matched expression = pattern expression false silent

-- at most four digits (RFC 7950, 9.4.7)
abbrev pub hex_digits : Option YangType
hex_digits = all_narrowed string_type (measured (from_to (pos 0) (pos 4) ∷ []) ∷ matched (codes "[0-9a-fA-F]*") ∷ [])

-- names that don't begin as `xml` does (RFC 7950, 9.4.7), with a tag each
abbrev pub no_xml_name : Option YangType
no_xml_name = all_narrowed string_type (length (record { first = at (pos 1); last = greatest } ∷ []) (with_tag (codes "short"))
    ∷ pattern (codes "[a-zA-Z_][a-zA-Z0-9\\-_.]*") false (with_tag (codes "name"))
    ∷ pattern (codes "[xX][mM][lL].*") true (with_tag (codes "xml")) ∷ [])

abbrev pub is_taken : Option YangType → Raw → Bool
is_taken type raw = option_map_or (λ t. is_some (taken t raw)) type false

abbrev pub named : Text → Naming
named name = record { name = name; number = None }

abbrev pub numbered : Text → ℤ → Naming
numbered name z = record { name = name; number = Some z }

-- a, b with 5, c, d with 2, e
abbrev pub five_enums : List Naming
five_enums = named (codes "a") ∷ numbered (codes "b") (pos 5) ∷ named (codes "c") ∷ numbered (codes "d") (pos 2)
    ∷ named (codes "e") ∷ []

abbrev pub enumeration : List Naming → Option YangType
enumeration names = option_map (λ ns. plain (enumeration_base ns)) (enum_names names)

abbrev pub bits : List Naming → Option YangType
bits names = option_map (λ ns. plain (bits_base ns)) (bit_names names)

-- x at 3, y, z at 0
abbrev pub three_bits : List Naming
three_bits = numbered (codes "x") (pos 3) ∷ named (codes "y") ∷ numbered (codes "z") (pos 0) ∷ []

-- white, yellow and red, of the numbers 0, 1 and 7, and a type that restricts them (RFC 7950, 9.6.5)
abbrev pub three_colours : List Naming
three_colours = named (codes "white") ∷ named (codes "yellow") ∷ numbered (codes "red") (pos 7) ∷ []

abbrev pub coloured : List Naming → Option YangType
coloured names = option_and_then (λ t. narrowed t (of_enums names)) (enumeration three_colours)

-- the bits among three that a restriction names
abbrev pub bits_among : List Naming → Option YangType
bits_among names = option_and_then (λ t. narrowed t (of_bits names)) (bits three_bits)

abbrev pub taken_by : Option YangType → Text → Option Val
taken_by type t = option_and_then (λ y. taken y (text t)) type

-- the tag that it tells of a text
abbrev pub tag_by : Option YangType → Text → Option Text
tag_by type t = option_and_then (λ y. app_tag_of y (text t)) type

abbrev pub shown_by : Option YangType → Text → Option Text
shown_by type t = option_and_then (λ y. shown y t) type

-- base1, eth and fast of a module i, odd of it, and opt of a module j, by the numbers of their statements
abbrev pub five_identities : List Assigned
five_identities = record { name = codes "i:base1"; number = pos 3 } ∷ record { name = codes "i:eth"; number = pos 4 }
    ∷ record { name = codes "i:fast"; number = pos 6 } ∷ record { name = codes "i:odd"; number = pos 8 }
    ∷ record { name = codes "j:opt"; number = pos 9 } ∷ []

-- those that derive from base1, at a leaf of i
abbrev pub identity_sample : YangType
identity_sample = plain (identity_base (codes "i") five_identities (pos 4 ∷ pos 6 ∷ pos 9 ∷ []))

-- what a module calls itself, and the module i, whose prefix there is p
abbrev pub names_sample : Text → ModuleNames
names_sample own = record { own = own; prefixed = (codes "p", codes "i") ∷ [] }
