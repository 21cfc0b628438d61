-- Types and defaults where names of values bear conditions: an enum, a bit or an identity that is off is no value of the type,
-- and a default rests on none that bears a condition, on or off (RFC 7950, 7.6.4, 7.7.4, 7.20.2, 9.6.4, 9.7.4 and 9.10.2).
use Rattle.std.specs.Prelude.{ℕ, ℤ, pos, zero, suc, ◌&&◌, ◌||◌, Bool, true, false, not, List, [], ◌∷◌, map, codes, filter, Option, None, is_some, option_map, option_and_then, if◌then◌else◌, unwrap_or, nat_lt}
use Rattle.std.specs.List.{list_any, list_all, filter_map}
use Rattle.std.specs.Option.{option_map_or}
use Rattle.yspec.specs.Forest.{Forest, end, node, row, size, first_of, relabelled}
use Rattle.yspec.specs.text.Text.{Text, is_text}
use Rattle.yspec.specs.types.Names.{Assigned, enum_names, bit_names}
use Rattle.yspec.specs.types.Restriction.{has_name}
use Rattle.yspec.specs.types.Types.{YangType, Val, enumeration_base, bits_base, identity_base, plain, type_in, string_type}
use Rattle.yspec.specs.types.Order.{same_value}
use Rattle.yspec.specs.linking.Keyword.{Keyword}
use Rattle.yspec.specs.linking.Keyword as word
use Rattle.yspec.specs.linking.Source.{Source, Stated, is_source_of, argument_in, first_with, found_with, stated_with}
use Rattle.yspec.specs.linking.Scopes.{Placed, statement_at}
use Rattle.yspec.specs.linking.Identities.{module_name, assigned_identity, identities_of, derives, bases_in}
use Rattle.yspec.specs.linking.TypeStatements.{BuiltIn, enumeration, bits, union, leafref, identityref, Meant, own, of_union, Verdict, means, wrong, built_in_meant, are_in_place, of_names, namings, value_stated, position_stated, single_type, union_verdict, leafref_verdict, named_where, derived_by, meaning_of}
use Rattle.yspec.specs.linking.DerivedTypes.{Known, unknown, named, verdict_by, typedef_row, is_own_member}
use Rattle.yspec.specs.linking.Planned.{Planned, Plan, is_a, stated_in, is_leaf_or_leaf_list, is_too_wide, member_types, type_by, target_of, targets_of}
use Rattle.yspec.specs.linking.SchemaNodes as schema_nodes
use Rattle.yspec.specs.linking.SchemaNodes.{is_mandatory, min_elements_of, own_defaults, is_key}
use Rattle.yspec.specs.linking.NodeBreaks.{is_empty, has_equal, is_wrong_case, broken_at}
use Rattle.yspec.specs.schema.Breaks.{Break, when}
use Rattle.yspec.specs.schema.Schema.{SchemaNode, Kind, leaf, leaf_list, JsonForm, by_type, any_value, any_object, LeafType, Absence, mandatory, key}
use Rattle.yspec_wide.specs.Language.{Language, core, rfc}
use Rattle.yspec_wide.specs.Words.{anydata_word, anyxml_word}
use Rattle.yspec_wide.specs.Sources.{bears_condition, is_added}
use Rattle.yspec_wide.specs.Features.{stands}
use Rattle.yspec_wide.specs.VersionBreaks.{is_of_yang_1, has_distinct_items}
use Rattle.yspec_wide.specs.Guards.{is_guarded, asked_kind}

-- ---- types of the names that are kept, by what stands below their statements

pub data Keeping : Type 0 where
  all_names : Keeping
  names_where : (Forest Source → Bool) → Keeping

abbrev pub keeps : Keeping → Forest Source → Bool
keeps all_names below = true
keeps (names_where test) below = test below

abbrev pub is_all : Keeping → Bool
is_all all_names = true
is_all (names_where test) = false

-- Whether a name restricts a type. Where all are kept each has to be one of the type's; else those do that are kept and that the type
-- still has.
abbrev pub is_restriction_kept : Keeping → YangType → Source → Forest Source → Bool
is_restriction_kept kept type s below = is_all kept || (keeps kept below && has_name type (argument_in s))

abbrev pub named_kept : Keeping → Forest Source → YangType → Option YangType
named_kept kept below type = named_where (is_restriction_kept kept) below type

module _ (kept : Keeping) where
  -- the names that statements of a row with a keyword give, where they are kept
  abbrev pub names_kept : Keyword → Forest Source → List Text
  names_kept k end = []
  names_kept k (node s below after) =
      if is_source_of k s && keeps kept below then argument_in s ∷ names_kept k after else names_kept k after

  -- Numbers are given as if all were kept.
  abbrev pub assigned_kept : Keyword → Forest Source → List Assigned → List Assigned
  assigned_kept k below given = filter (λ a. list_any (is_text a.name) (names_kept k below)) given

  abbrev pub single_type_of : BuiltIn → Forest Source → Option YangType
  single_type_of enumeration below = of_names (λ given. enumeration_base (assigned_kept word.enum_word below given)) enum_names
      (namings word.enum_word value_stated below)
  single_type_of bits below = of_names (λ given. bits_base (assigned_kept word.bit_word below given)) bit_names
      (namings word.bit_word position_stated below)
  single_type_of type below = single_type type below

  abbrev pub numbers_kept : Forest Source → List ℕ → List ℤ
  numbers_kept modules bases =
      map (λ p. pos p.source.number) (filter (λ p. keeps kept p.below && list_all (derives modules p) bases) (identities_of modules))

  abbrev pub identity_type_of : Forest Source → ℕ → List ℕ → YangType
  identity_type_of modules home bases =
      plain (identity_base (module_name modules home) (map (assigned_identity modules) (identities_of modules)) (numbers_kept modules bases))

  abbrev pub identity_verdict_of : Forest Source → ℕ → List ℕ → Verdict
  identity_verdict_of modules home [] = wrong
  identity_verdict_of modules home (base ∷ bases) = means (own (identity_type_of modules home (base ∷ bases)))

  abbrev pub verdict_in_place_of : Forest Source → Bool → Source → BuiltIn → Forest Source → List Verdict → Verdict
  verdict_in_place_of modules member s union below members = union_verdict members
  verdict_in_place_of modules member s leafref below members = leafref_verdict member s below
  verdict_in_place_of modules member s identityref below members = identity_verdict_of modules s.home (bases_in modules below)
  verdict_in_place_of modules member s type below members = option_map_or (λ t. means (own t)) (single_type_of type below) wrong

  abbrev pub verdict_of : Forest Source → (ℕ → Verdict) → Bool → Source → Forest Source → List Verdict → Verdict
  verdict_of modules names member s below members = option_map_or (λ type. if are_in_place type below
      then verdict_in_place_of modules member s type below members else wrong) (built_in_meant modules s)
      (derived_by (named_kept kept below) member below (names s.number))

  unfoldable pub verdicts_of : Forest Source → (ℕ → Verdict) → Forest Source → List Verdict
  verdicts_of modules names end = []
  verdicts_of modules names (node s below after) = if is_source_of word.type_word s
      then verdict_of modules names (not s.may_refer) s below (verdicts_of modules names below) ∷ verdicts_of modules names after
      else verdicts_of modules names after

  abbrev pub verdict_on_of : Forest Source → (ℕ → Verdict) → Bool → Source → Forest Source → Verdict
  verdict_on_of modules names member s below = verdict_of modules names member s below (verdicts_of modules names below)

  abbrev pub known_of : Forest Source → (ℕ → Known) → Forest Source → Source × Forest Source → Known
  known_of modules names row type = record {
    verdict = verdict_on_of modules (verdict_by names) false type.0 type.1;
    default = first_of (stated_with word.default_word row) (names type.0.number).default;
  }

  abbrev pub known_in_row_of : Forest Source → (ℕ → Known) → Forest Source → Known
  known_in_row_of modules names row = option_map_or (known_of modules names row) (found_with word.type_word row) unknown

  unfoldable pub known_within_of : Forest Source → ℕ → ℕ → Known
  known_within_of modules zero number = unknown
  known_within_of modules (suc steps) number =
      option_map_or (known_in_row_of modules (named modules (known_within_of modules steps))) (typedef_row modules number) unknown

  abbrev pub known_named_of : Forest Source → ℕ → Known
  known_named_of modules = named modules (known_within_of modules (size modules))

  abbrev pub verdict_at : Forest Source → Placed → Verdict
  verdict_at modules p =
      verdict_on_of modules (verdict_by (known_named_of modules)) (is_own_member p) p.source p.below

  abbrev pub meant_of : Forest Source → Placed → Option Meant
  meant_of modules p = if is_source_of word.type_word p.source then meaning_of (verdict_at modules p) else None

  abbrev pub meant_in_of : Plan → Planned → Option Meant
  meant_in_of plan p =
      option_and_then (λ s. option_and_then (meant_of plan.modules) (statement_at plan.modules s.number)) (first_with word.type_word p.part.own)

  unfoldable pub type_within_of : Plan → ℕ → Planned → Option YangType
  type_within_of plan zero p = None
  type_within_of plan (suc steps) p = option_and_then (type_by plan (type_within_of plan steps) p) (meant_in_of plan p)

  -- the type of a leaf or leaf-list
  abbrev pub type_of_kept : Plan → Planned → Option YangType
  type_of_kept plan p =
      option_map (type_in (module_name plan.modules p.part.owner)) (type_within_of plan (suc (size plan.nodes)) p)

-- ---- defaults

-- A leaf-list of YANG 1 has none, its type's neither (RFC 6020, 7.7).
abbrev pub has_defaults : Language → Plan → Planned → Bool
has_defaults language plan p = not (is_a word.leaf_list_word p && is_of_yang_1 language plan.modules p.part.source)

abbrev pub default_texts_in : Language → Plan → Planned → List Stated
default_texts_in language plan p = if has_defaults language plan p then schema_nodes.default_texts plan p else []

abbrev pub bears_none : Language → Forest Source → Bool
bears_none language below = not (bears_condition language below)

abbrev pub same_if_any : Option Val → Option Val → Bool
same_if_any v w = option_map_or (λ a. option_map_or (same_value a) w false) v false

-- the names that bear no condition, and those that stand
abbrev pub unmarked : Language → Keeping
unmarked core = all_names
unmarked (rfc wide) = names_where (bears_none (rfc wide))

abbrev pub standing_names : Language → Forest Source → Keeping
standing_names core modules = all_names
standing_names (rfc wide) modules = names_where (stands (rfc wide) modules)

-- whether a type takes a default, and takes it alike without the names that bear conditions
abbrev pub is_right_default : Language → Plan → Planned → YangType → Stated → Bool
is_right_default language plan p type t = same_if_any (schema_nodes.value_stated plan type t)
    (option_and_then (λ fewer. schema_nodes.value_stated plan fewer t) (type_of_kept (unmarked language) plan p))

abbrev pub is_refused_in : Language → Plan → Planned → YangType → Stated → Bool
is_refused_in language plan p type t = not (is_right_default language plan p type t)

abbrev pub is_wrong_default_in : Language → Plan → Planned → YangType → Bool
is_wrong_default_in language plan p type = if is_mandatory p then not (is_empty (own_defaults p))
    else list_any (is_refused_in language plan p type) (default_texts_in language plan p)

abbrev pub are_wrong_defaults_in : Language → Plan → Planned → YangType → Bool
are_wrong_defaults_in language plan p type = if nat_lt 0 (min_elements_of p) then not (is_empty (own_defaults p))
    else list_any (is_refused_in language plan p type) (default_texts_in language plan p)
    || (p.config && has_equal plan type (default_texts_in language plan p))

abbrev pub standing_type : Language → Plan → Planned → Option YangType
standing_type language plan p = type_of_kept (standing_names language plan.modules) plan p

abbrev pub is_default_wrong_in : Language → Plan → Planned → Bool
is_default_wrong_in language plan p = if is_a word.leaf_word p
    then not (is_key plan p) && option_map_or (is_wrong_default_in language plan p) (standing_type language plan p) false
    else (if is_a word.leaf_list_word p then option_map_or (are_wrong_defaults_in language plan p) (standing_type language plan p) false
    else (is_a word.choice_word p && (is_some (stated_in word.default_word p) && is_wrong_case plan p (schema_nodes.default_case plan p))))

abbrev pub default_breaks_in : Language → Plan → Planned → List Break
default_breaks_in language plan p = when (is_default_wrong_in language plan p) (broken_at 11 p)

-- ---- C18: a union that has too many members with those of what its leafrefs lead to

abbrev pub is_wide_union : Keeping → Plan → Planned → Meant → Bool
is_wide_union kept plan p (of_union members) = option_map_or is_too_wide (member_types plan (type_of_kept kept plan) p members) false
is_wide_union kept plan p _ = false

abbrev pub is_wide_over : Keeping → Plan → Planned → Bool
is_wide_over kept plan p = option_map_or (is_wide_union kept plan p) (meant_in_of kept plan p) false

abbrev pub width_breaks : Language → Plan → Planned → List Break
width_breaks core plan p = []
width_breaks (rfc wide) plan p =
    when (is_leaf_or_leaf_list p && is_wide_over (standing_names (rfc wide) plan.modules) plan p) (broken_at 18 p)

-- ---- schema nodes: their types without the names that are off, and their defaults

abbrev pub default_values_in : Language → Plan → Planned → List Val
default_values_in language plan p = filter_map
    (λ t. option_and_then (λ type. schema_nodes.value_stated plan type t) (standing_type language plan p)) (default_texts_in language plan p)

-- An `anydata` has an object, an `anyxml` any value (RFC 7951, 5.5 and 5.6).
abbrev pub form_of : Language → Source → JsonForm
form_of language s = if is_added language anydata_word s then any_object else (if is_added language anyxml_word s then any_value else by_type)

-- what stands for a type in a diagram
abbrev pub form_name : JsonForm → Text → Text
form_name by_type name = name
form_name any_value name = codes "<anyxml>"
form_name any_object name = codes "<anydata>"

abbrev pub leaf_type_in : Language → Plan → Planned → LeafType
leaf_type_in language plan p = record {
  name = form_name (form_of language p.part.source) (schema_nodes.type_name p);
  type = unwrap_or (standing_type language plan p) string_type;
  target = option_map schema_nodes.number_in (target_of plan p);
  targets = targets_of plan (standing_type language plan) p (meant_in_of (standing_names language plan.modules) plan p);
  form = form_of language p.part.source;
}

abbrev pub absence_in : Language → Plan → Planned → Absence
absence_in language plan p = if is_key plan p then key
    else (if is_mandatory p then mandatory else schema_nodes.absent_by (schema_nodes.first_value (default_values_in language plan p)))

abbrev pub kind_stated : Language → Plan → Planned → Kind
kind_stated language plan p = if is_a word.leaf_word p then leaf (leaf_type_in language plan p) (absence_in language plan p)
    else (if is_a word.leaf_list_word p
    then leaf_list (leaf_type_in language plan p) (default_values_in language plan p) (schema_nodes.amount_of p)
    else schema_nodes.kind_by plan p p.part.source.keyword)

-- of what hangs on a `when` nothing is asked
abbrev pub kind_in : Language → Plan → Planned → Kind
kind_in language plan p = asked_kind (is_guarded language plan p) (kind_stated language plan p)

abbrev pub schema_node_in : Language → Plan → Planned → SchemaNode
schema_node_in language plan p =
    record (schema_nodes.schema_node plan p) { distinct_items = has_distinct_items language plan p; kind = kind_in language plan p }

abbrev pub schema_nodes_in : Language → Plan → Forest SchemaNode
schema_nodes_in language plan = relabelled (schema_node_in language plan) plan.nodes
