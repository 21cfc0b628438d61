-- The types that `type` statements mean, and where one breaks a rule of its own (RFC 7950, 7.3, 7.4 and 9).
use Rattle.std.specs.Prelude.{ℕ, ℤ, pos, ◌&&◌, ◌||◌, ◌++◌, Bool, true, false, not, List, [], ◌∷◌, sum_by, codes, Option, Some, None, option_map, option_and_then, unwrap_or, nat_lt, if◌then◌else◌}
use Rattle.std.specs.List.{list_any, list_all}
use Rattle.std.specs.Option.{option_map_or}
use Rattle.yspec.specs.Forest.{Forest, end, node, row}
use Rattle.yspec.specs.text.Text.{Text, is_text}
use Rattle.yspec.specs.types.Ranges.{ErrorText, Span}
use Rattle.yspec.specs.types.Names.{Naming, Assigned, enum_names, bit_names}
use Rattle.yspec.specs.types.Restriction.{Restriction, range, length, pattern, narrowed, member_count, union_type, of_enums, of_bits}
use Rattle.yspec.specs.types.Types.{Base, decimal_base, boolean_base, empty_base, enumeration_base, bits_base, binary_base, YangType, plain, integer_type, string_type}
use Rattle.yspec.specs.linking.Keyword.{Keyword}
use Rattle.yspec.specs.linking.Keyword as word
use Rattle.yspec.specs.linking.Arguments.{Name, spans_of, leafref_path_of, value_of, count_of, fraction_digits_of}
use Rattle.yspec.specs.linking.Source.{Source, is_source_of, argument_in, argument_with, found_with}
pub use Rattle.yspec.specs.linking.BuiltIns.{BuiltIn, integer, decimal64, string, boolean, empty, enumeration, bits, union, leafref, identityref, binary, built_in_name, named_so, all_built_in, built_in_types}
unfoldable pub use Rattle.yspec.specs.linking.BuiltIns.{built_in_named}
use Rattle.yspec.specs.linking.Identities.{bases_in, identity_type}
use Rattle.yspec.specs.schema.Breaks.{Break, broken}

-- ---- built-in types

-- the one that a `type` statement of a set of modules names
abbrev pub built_in_meant : Forest Source → Source → Option BuiltIn
built_in_meant modules s = built_in_named (argument_in s)

-- ---- what a `type` statement means

-- a member of a union: a type that refers to no other node, or a leafref
pub data Member : Type 0 where
  own_member : YangType → Member
  leafref_member : ℕ → List Name → Bool → Member

pub data Meant : Type 0 where
  -- a type that refers to no other node
  own : YangType → Meant
  -- the type of the leaf or leaf-list to which a path leads, which stands in a module of the set, and whether an instance
  -- is required (RFC 7950, 9.9)
  of_target : ℕ → List Name → Bool → Meant
  -- a union with leafrefs among its members, those of the unions among them being its own (RFC 7950, 9.12)
  of_union : List Member → Meant

-- the type that refers to no other node, if it is one
abbrev pub own_type : Meant → Option YangType
own_type (own type) = Some type
own_type (of_target home steps required) = None
own_type (of_union members) = None

-- the members that it is in a union
abbrev pub members_meant : Meant → List Member
members_meant (own type) = own_member type ∷ []
members_meant (of_target home steps required) = leafref_member home steps required ∷ []
members_meant (of_union members) = members

pub data Verdict : Type 0 where
  means : Meant → Verdict
  -- it breaks a rule of its own
  wrong : Verdict
  -- it is a union of more members than are read
  too_large : Verdict
  -- it rests on a type that breaks one
  unjudged : Verdict

-- ---- patterns

-- A `pattern` and a `modifier` are told by their texts, since the core's table has neither.
abbrev pub is_pattern_statement : Source → Bool
is_pattern_statement s = is_text s.statement.keyword (codes "pattern")

-- the only modifier is `invert-match` (RFC 7950, 9.4.6)
abbrev pub is_inverted : Forest Source → Bool
is_inverted below = list_any (λ s. is_text s.statement.keyword (codes "modifier")) (row below)

-- ---- restrictions

-- the substatements that a built-in type may bear
abbrev pub may_bear : BuiltIn → Keyword → Bool
may_bear (integer i) word.range_word = true
may_bear decimal64 word.fraction_digits_word = true
may_bear decimal64 word.range_word = true
may_bear string word.length_word = true
may_bear enumeration word.enum_word = true
may_bear bits word.bit_word = true
may_bear union word.type_word = true
may_bear leafref word.path_word = true
may_bear leafref word.require_instance_word = true
may_bear identityref word.base_word = true
may_bear binary word.length_word = true
may_bear _ _ = false

abbrev pub may_bear_patterns : BuiltIn → Bool
may_bear_patterns string = true
may_bear_patterns _ = false

abbrev pub is_in_place : BuiltIn → Source → Bool
is_in_place type s = if is_pattern_statement s then may_bear_patterns type else may_bear type s.keyword

abbrev pub are_in_place : BuiltIn → Forest Source → Bool
are_in_place type below = list_all (is_in_place type) (row below)

-- what the statements of a row say of a value that isn't taken (RFC 7950, 7.5.4.1 and 7.5.4.2)
abbrev pub error_text_in : Forest Source → ErrorText
error_text_in below = record { message = argument_with word.error_message_word below; app_tag = argument_with word.error_app_tag_word below }

-- the restriction that a `range` or a `length` of a row states, with what it says of other values
abbrev pub stated_by : (List Span → ErrorText → Restriction) → Source × Forest Source → Restriction
stated_by restriction s = restriction (unwrap_or (spans_of (argument_in s.0)) []) (error_text_in s.1)

abbrev pub stated : Keyword → (List Span → ErrorText → Restriction) → Forest Source → Option Restriction
stated k restriction below = option_map (stated_by restriction) (found_with k below)

abbrev pub pattern_stated : Source → Forest Source → Restriction
pattern_stated s below = pattern (argument_in s) (is_inverted below) (error_text_in below)

-- what the patterns of a row make of a type, in their order (RFC 7950, 9.4.5)
unfoldable pub matched_in : Forest Source → YangType → Option YangType
matched_in end type = Some type
matched_in (node s below after) type = if is_pattern_statement s
    then option_and_then (matched_in after) (narrowed type (pattern_stated s below)) else matched_in after type

abbrev pub limited : Option Restriction → YangType → Option YangType
limited None type = Some type
limited (Some r) type = narrowed type r

-- the names that some statements of a row give, each with its number where one is stated
abbrev pub namings_where : (Source → Forest Source → Bool) → (Forest Source → Option ℤ) → Forest Source → List Naming
namings_where test number end = []
namings_where test number (node s below after) = if test s below
    then record { name = argument_in s; number = number below } ∷ namings_where test number after else namings_where test number after

-- those that its statements with a keyword give
abbrev pub namings : Keyword → (Forest Source → Option ℤ) → Forest Source → List Naming
namings k number below = namings_where (λ s inner. is_source_of k s) number below

abbrev pub value_stated : Forest Source → Option ℤ
value_stated below = option_and_then value_of (argument_with word.value_word below)

abbrev pub position_stated : Forest Source → Option ℤ
position_stated below = option_map pos (option_and_then count_of (argument_with word.position_word below))

abbrev pub of_names : (List Assigned → Base) → (List Naming → Option (List Assigned)) → List Naming → Option YangType
of_names base names [] = None
of_names base names (n ∷ ns) = option_map (λ given. plain (base given)) (names (n ∷ ns))

-- ---- types

abbrev pub limited_range : Forest Source → YangType → Option YangType
limited_range below type = limited (stated word.range_word range below) type

-- a type that is no union, no leafref and no identityref
abbrev pub single_type : BuiltIn → Forest Source → Option YangType
single_type (integer i) below = limited_range below (integer_type i)
single_type decimal64 below = option_and_then (λ digits. limited_range below (plain (decimal_base digits)))
    (option_and_then fraction_digits_of (argument_with word.fraction_digits_word below))
single_type string below = option_and_then (matched_in below) (limited (stated word.length_word length below) string_type)
single_type boolean below = Some (plain boolean_base)
single_type empty below = Some (plain empty_base)
single_type enumeration below = of_names enumeration_base enum_names (namings word.enum_word value_stated below)
single_type bits below = of_names bits_base bit_names (namings word.bit_word position_stated below)
single_type binary below = limited (stated word.length_word length below) (plain binary_base)
single_type _ below = None

-- the types of members, where each has one
abbrev pub with_type : Verdict → Option (List YangType) → Option (List YangType)
with_type (means (own type)) others = option_map (λ types. type ∷ types) others
with_type _ others = None

abbrev pub member_types : List Verdict → Option (List YangType)
member_types [] = Some []
member_types (v ∷ vs) = with_type v (member_types vs)

-- the most members that a union may have, with those of the unions among them
abbrev pub member_limit : ℕ
member_limit = 65535

abbrev pub of_members : List YangType → Verdict
of_members types = if nat_lt member_limit (member_count (union_type types)) then too_large else means (own (union_type types))

-- the members of a union, where each has a meaning
abbrev pub with_members : Verdict → Option (List Member) → Option (List Member)
with_members (means m) others = option_map (λ members. members_meant m ++ members) others
with_members _ others = None

abbrev pub members_in : List Verdict → Option (List Member)
members_in [] = Some []
members_in (v ∷ vs) = with_members v (members_in vs)

-- a leafref is one, before it is known what it leads to
abbrev pub width_of : Member → ℕ
width_of (own_member type) = member_count type
width_of (leafref_member home steps required) = 1

abbrev pub referring_union : List Member → Verdict
referring_union members = if nat_lt member_limit (sum_by width_of members) then too_large else means (of_union members)

abbrev pub union_verdict : List Verdict → Verdict
union_verdict [] = wrong
union_verdict (v ∷ vs) =
    option_map_or of_members (member_types (v ∷ vs)) (option_map_or referring_union (members_in (v ∷ vs)) unjudged)

-- an instance is required unless it is said otherwise
abbrev pub is_required : Forest Source → Bool
is_required below = option_map_or (λ t. is_text t (codes "true")) (argument_with word.require_instance_word below) true

-- a member of a union is no leafref, where it may not be one
abbrev pub leafref_verdict : Bool → Source → Forest Source → Verdict
leafref_verdict true s below = wrong
leafref_verdict false s below = option_map_or (λ steps. means (of_target s.home steps (is_required below)))
    (option_and_then leafref_path_of (argument_with word.path_word below)) wrong

-- with bases that are found; there must be one
abbrev pub identity_verdict : Forest Source → ℕ → List ℕ → Verdict
identity_verdict modules home [] = wrong
identity_verdict modules home (base ∷ bases) = means (own (identity_type modules home (base ∷ bases)))

abbrev pub verdict_in_place : Forest Source → Bool → Source → BuiltIn → Forest Source → List Verdict → Verdict
verdict_in_place modules is_member s union below members = union_verdict members
verdict_in_place modules is_member s leafref below members = leafref_verdict is_member s below
verdict_in_place modules is_member s identityref below members = identity_verdict modules s.home (bases_in modules below)
verdict_in_place modules is_member s type below members = option_map_or (λ t. means (own t)) (single_type type below) wrong

-- ---- names that restrict

-- Where a text may restrict names, an `enum` or a `bit` below a type that isn't built in is kept as `extension` is named, and told
-- by its text (RFC 7950, 9.6.4 and 9.7.4).
abbrev pub is_restricting : Text → Source → Bool
is_restricting name s = is_source_of word.extension_word s && is_text s.statement.keyword name

abbrev pub enum_text : Text
enum_text = codes "enum"

abbrev pub bit_text : Text
bit_text = codes "bit"

-- those and patterns come behind the other restrictions
abbrev pub comes_behind : Source → Bool
comes_behind s = is_pattern_statement s || (is_restricting enum_text s || is_restricting bit_text s)

-- what those of a row make of a type that have a text; some of them count
abbrev pub restricted_to : (List Naming → Restriction) → Text → (Source → Forest Source → Bool) → (Forest Source → Option ℤ)
    → Forest Source → YangType → Option YangType
restricted_to restriction name counts number below type = if list_any (is_restricting name) (row below)
    then narrowed type (restriction (namings_where (λ s inner. is_restricting name s && counts s inner) number below)) else Some type

abbrev pub named_where : (YangType → Source → Forest Source → Bool) → Forest Source → YangType → Option YangType
named_where counts below type = option_and_then (λ left. restricted_to of_bits bit_text (counts left) position_stated below left)
    (restricted_to of_enums enum_text (counts type) value_stated below type)

-- what the names of a row make of a type
abbrev pub named_in : Forest Source → YangType → Option YangType
named_in below type = named_where (λ left s inner. true) below type

-- ---- by way of a typedef

-- what a substatement makes of what the typedef means: each is a restriction that a derived type may bear
abbrev pub narrowed_by : Source → Forest Source → YangType → Option YangType
narrowed_by s below type = if is_source_of word.range_word s then narrowed type (stated_by range (s, below))
    else (if is_source_of word.length_word s then narrowed type (stated_by length (s, below)) else None)

abbrev pub restricted_by : Source → Forest Source → Meant → Option Meant
restricted_by s below (own type) = option_map own (if comes_behind s then Some type
    else narrowed_by s below type)
restricted_by s below (of_target home steps required) = if is_source_of word.require_instance_word s
    then Some (of_target home steps (is_text (argument_in s) (codes "true"))) else None
restricted_by s below (of_union members) = None

unfoldable pub restricted_in : Forest Source → Meant → Option Meant
restricted_in end m = Some m
restricted_in (node s below after) m = option_and_then (restricted_in after) (restricted_by s below m)

abbrev pub matched_meant : Forest Source → Meant → Option Meant
matched_meant below (own type) = option_map own (matched_in below type)
matched_meant below (of_target home steps required) = Some (of_target home steps required)
matched_meant below (of_union members) = Some (of_union members)

abbrev pub named_meant : (YangType → Option YangType) → Meant → Option Meant
named_meant names (own type) = option_map own (names type)
named_meant names (of_target home steps required) = Some (of_target home steps required)
named_meant names (of_union members) = Some (of_union members)

abbrev pub is_reference : Meant → Bool
is_reference (own type) = false
is_reference (of_target home steps required) = true
is_reference (of_union members) = false

-- of a `type` statement that names a typedef, given what its names make of types and the verdict on the typedef's own; a member
-- of a union is no leafref, where it may not be one
abbrev pub derived_by : (YangType → Option YangType) → Bool → Forest Source → Verdict → Verdict
derived_by names is_member below (means m) = if is_member && is_reference m then wrong
    else option_map_or means (option_and_then (named_meant names) (option_and_then (matched_meant below) (restricted_in below m))) wrong
derived_by names is_member below _ = unjudged

abbrev pub derived : Bool → Forest Source → Verdict → Verdict
derived is_member below v = derived_by (named_in below) is_member below v

-- ---- `named` is the verdict on the typedef that the statement of a number names

-- on a `type` statement of a set of modules, a member of a union that may not be a leafref or not; `members` are the verdicts on
-- those below it
abbrev pub verdict : Forest Source → (ℕ → Verdict) → Bool → Source → Forest Source → List Verdict → Verdict
verdict modules named is_member s below members = option_map_or (λ type. if are_in_place type below
    then verdict_in_place modules is_member s type below members else wrong) (built_in_meant modules s)
    (derived is_member below (named s.number))

-- the verdicts on the `type` statements of a row, which are members of a union
unfoldable pub verdicts : Forest Source → (ℕ → Verdict) → Forest Source → List Verdict
verdicts modules named end = []
verdicts modules named (node s below after) = if is_source_of word.type_word s
    then verdict modules named (not s.may_refer) s below (verdicts modules named below) ∷ verdicts modules named after
    else verdicts modules named after

-- with those on its members
abbrev pub verdict_on : Forest Source → (ℕ → Verdict) → Bool → Source → Forest Source → Verdict
verdict_on modules named is_member s below = verdict modules named is_member s below (verdicts modules named below)

abbrev pub meaning_of : Verdict → Option Meant
meaning_of (means m) = Some m
meaning_of _ = None

-- ---- C10, and C18 of unions

-- what a verdict tells of its statement
abbrev pub told : Source → Verdict → List Break
told s wrong = broken 10 s.home s.statement.line
told s too_large = broken 18 s.home s.statement.line
told s _ = []
