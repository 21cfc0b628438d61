-- Kinds of statements below a `type` statement: by their keywords, and by what they state.
use Rattle.std.specs.Prelude.{ℤ, Bool, true, ◌&&◌, List, Option, find, option_map, if◌then◌else◌}
use Rattle.yspec.specs.Forest.{Forest, end, node}
use Rattle.yspec.specs.text.Text.{Text, is_text}
use Rattle.yspec.specs.types.Names.{Assigned, Naming, enum_names, bit_names}
use Rattle.yspec.specs.types.Ranges.{ErrorText, Span}
use Rattle.yspec.specs.types.Restriction.{Restriction, range, length, of_enums, of_bits}
use Rattle.yspec.specs.types.Types.{Base, YangType, enumeration_base, bits_base}
use Rattle.yspec.specs.linking.Keyword.{Keyword, range_word, length_word, enum_word, bit_word}
use Rattle.yspec.specs.linking.Source.{Source, is_source_of}
use Rattle.yspec.specs.linking.TypeStatements.{value_stated, position_stated, namings, namings_where, of_names, is_restricting, enum_text, bit_text}
use Rattle.yspec_wide.specs.Types.{Keeping, keeps, is_restriction_kept, assigned_kept}
use Rattle.ylink_values.specs.declared.limit.SpanRestriction.{SpanRestriction}
use Rattle.ylink_values.specs.declared.limit.SpanRestriction.TheVariants.{Range, Length}
use Rattle.ylink_values.specs.declared.naming.NamingKind.{NamingKind}
use Rattle.ylink_values.specs.declared.naming.NamingKind.TheVariants.{Enum, Bit}

abbrev pub word_of : SpanRestriction → Keyword
word_of Range = range_word
word_of Length = length_word

abbrev pub restriction_by : SpanRestriction → List Span → ErrorText → Restriction
restriction_by Range = range
restriction_by Length = length

abbrev pub naming_word : NamingKind → Keyword
naming_word Enum = enum_word
naming_word Bit = bit_word

abbrev pub naming_text : NamingKind → Text
naming_text Enum = enum_text
naming_text Bit = bit_text

-- the restriction by names of a kind
abbrev pub restriction_of_kind : NamingKind → List Naming → Restriction
restriction_of_kind Enum = of_enums
restriction_of_kind Bit = of_bits

-- the number that one states, from what stands below it
abbrev pub number_by : NamingKind → Forest Source → Option ℤ
number_by Enum = value_stated
number_by Bit = position_stated

-- the names of a statement with their numbers
abbrev pub names_by : NamingKind → List Naming → Option (List Assigned)
names_by Enum = enum_names
names_by Bit = bit_names

abbrev pub base_of : NamingKind → List Assigned → Base
base_of Enum = enumeration_base
base_of Bit = bits_base

-- whether all names are kept that statements of a row with a keyword give
abbrev pub are_kept : Keeping → Keyword → Forest Source → Bool
are_kept kept k end = true
are_kept kept k (node s below after) = if is_source_of k s then keeps kept below && are_kept kept k after else are_kept kept k after

-- a name with the number that it has among some
abbrev pub naming_in : List Assigned → Text → Naming
naming_in names t = record { name = t; number = option_map (λ a. a.number) (find (λ a. is_text t a.name) names) }

-- the type of those names of a row that are kept
abbrev pub type_kept : Keeping → NamingKind → Forest Source → Option YangType
type_kept kept kind below = of_names (λ given. base_of kind (assigned_kept kept (naming_word kind) below given)) (names_by kind)
    (namings (naming_word kind) (number_by kind) below)

-- the names of a kind in a row that restrict a type
abbrev pub left_by : Keeping → NamingKind → YangType → Forest Source → List Naming
left_by kept kind type below =
    namings_where (λ s inner. is_restricting (naming_text kind) s && is_restriction_kept kept type s inner) (number_by kind) below
