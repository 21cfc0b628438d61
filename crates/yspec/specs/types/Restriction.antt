-- Derived types: what a restriction makes of a type (RFC 7950, 9.2.4, 9.3.4, 9.4.4, 9.4.5, 9.6.3, 9.7.3 and 9.9.3).
use Rattle.std.specs.Prelude.{ℕ, ◌-◌, ◌^◌, pos, Bool, true, false, List, [], ◌∷◌, ◌++◌, Option, Some, None, option_map, option_and_then, if◌then◌else◌}
use Rattle.std.specs.Prelude as prelude
use Rattle.yspec.specs.text.Text.{Text}
use Rattle.yspec.specs.types.Names.{Naming, Assigned, is_among, names_left}
use Rattle.yspec.specs.types.Ranges.{Part, ErrorText, Test, within, matching, Limit, Span, restricted}
use Rattle.yspec.specs.types.Types.{Base, integer_base, decimal_base, string_base, binary_base, SimpleType, Shape, single, union, YangType, numbers_of, int64, enumeration_base, bits_base}

pub data Restriction : Type 0 where
  range : List Span → ErrorText → Restriction
  length : List Span → ErrorText → Restriction
  -- as it is written, and whether `invert-match` stands below it
  pattern : Text → Bool → ErrorText → Restriction
  -- names that are left of an enumeration, and of bits, each perhaps with its number
  of_enums : List Naming → Restriction
  of_bits : List Naming → Restriction
  require_instance : Bool → Restriction

-- a length, which counts characters or octets, runs from 0 to the greatest number of 64 bits
abbrev pub lengths : Part
lengths = record { low = pos 0; high = pos (2 ^ 64 - 1) }

-- the numbers that a range may restrict, and how many digits they have after the point
abbrev pub range_base : Base → Option (Part × ℕ)
range_base (integer_base i) = Some (numbers_of i, 0)
range_base (decimal_base digits) = Some (numbers_of int64, digits)
range_base _ = None

abbrev pub length_base : Base → Option (Part × ℕ)
length_base string_base = Some (lengths, 0)
length_base binary_base = Some (lengths, 0)
length_base _ = None

-- patterns stand on strings (RFC 7950, 9.4.5)
abbrev pub may_match : Base → Bool
may_match string_base = true
may_match _ = false

abbrev pub left_within : List Part → Test → List Part
left_within parts (within fewer) = fewer
left_within parts (matching expression inverted) = parts

abbrev pub left_after : List Part → List Limit → List Part
left_after parts [] = parts
left_after parts (l ∷ ls) = left_after (left_within parts l.test) ls

-- the numbers that the ranges or lengths of a type leave: those of the outermost one, which lies within all others
abbrev pub left_by : Part → List Limit → List Part
left_by numbers limits = left_after (numbers ∷ []) limits

abbrev pub with_limit : SimpleType → ErrorText → Test → SimpleType
with_limit type error test =
    record type { limits = type.limits ++ record { test = test; error = error } ∷ [] }

abbrev pub limited_by : SimpleType → List Span → ErrorText → Part × ℕ → Option SimpleType
limited_by type spans error bounds =
    option_map (λ parts. with_limit type error (within parts)) (restricted (left_by bounds.0 type.limits) bounds.1 spans)

abbrev pub enums_left : List Naming → Base → Option Base
enums_left ns (enumeration_base names) = option_map enumeration_base (names_left names ns)
enums_left ns _ = None

abbrev pub bits_left : List Naming → Base → Option Base
bits_left ns (bits_base names) = option_map bits_base (names_left names ns)
bits_left ns _ = None

abbrev pub with_base : SimpleType → Base → SimpleType
with_base s base = record s { base = base }

abbrev with_shape : SimpleType → YangType
with_shape s = record { shape = single s; requires_instance = None }

abbrev pub narrowed_simple : SimpleType → Restriction → Option SimpleType
narrowed_simple s (range spans error) = option_and_then (limited_by s spans error) (range_base s.base)
narrowed_simple s (length spans error) = option_and_then (limited_by s spans error) (length_base s.base)
narrowed_simple s (pattern expression inverted error) =
    if may_match s.base then Some (with_limit s error (matching expression inverted)) else None
narrowed_simple s (of_enums ns) = option_map (with_base s) (enums_left ns s.base)
narrowed_simple s (of_bits ns) = option_map (with_base s) (bits_left ns s.base)
narrowed_simple s (require_instance b) = None

abbrev narrowed_shape : Shape → Restriction → Option YangType
narrowed_shape (single s) r = option_map with_shape (narrowed_simple s r)
narrowed_shape (union members) r = None

-- whether an instance is required is said of leafrefs alone, and the outermost decides
abbrev requiring : Shape → Restriction → Option YangType
requiring shape (require_instance b) = Some (record { shape = shape; requires_instance = Some b })
requiring shape _ = None

abbrev narrowed_by : Shape → Option Bool → Restriction → Option YangType
narrowed_by shape None r = narrowed_shape shape r
narrowed_by shape (Some b) r = requiring shape r

-- the type that a restriction makes of a type, if it may stand there
abbrev pub narrowed : YangType → Restriction → Option YangType
narrowed type r = narrowed_by type.shape type.requires_instance r

-- ---- the names of an enumeration or of bits

abbrev pub names_in_base : Base → List Assigned
names_in_base (enumeration_base names) = names
names_in_base (bits_base names) = names
names_in_base _ = []

abbrev pub names_in : Shape → List Assigned
names_in (single s) = names_in_base s.base
names_in (union members) = []

abbrev pub has_name : YangType → Text → Bool
has_name type name = is_among (prelude.map (λ a. a.name) (names_in type.shape)) name

-- ---- types that are made of others

abbrev pub members_of : Shape → List SimpleType
members_of (single s) = s ∷ []
members_of (union members) = members

abbrev pub is_union : Shape → Bool
is_union (single s) = false
is_union (union members) = true

-- how many types take values: one, but for a union
abbrev pub member_count : YangType → ℕ
member_count type = prelude.length (members_of type.shape)

-- a union has the members of the unions among its members
abbrev pub all_members : List YangType → List SimpleType
all_members [] = []
all_members (t ∷ ts) = members_of t.shape ++ all_members ts

abbrev pub union_type : List YangType → YangType
union_type types = record { shape = union (all_members types); requires_instance = None }

-- a leafref requires an instance unless it is said
abbrev pub leafref_type : YangType → YangType
leafref_type target = record { shape = target.shape; requires_instance = Some true }
