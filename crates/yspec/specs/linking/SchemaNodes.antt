-- The schema nodes that planned ones stand for (RFC 7950, 4.2.2 and 7.5 to 7.9).
use Rattle.std.specs.Prelude.{ℕ, ◌==◌, ◌&&◌, ◌||◌, Bool, false, List, [], ◌∷◌, map, codes, Option, Some, None, is_some, option_map, option_and_then, unwrap_or, if◌then◌else◌, nat_lt}
use Rattle.std.specs.List.{list_any, filter_map, flat_map}
use Rattle.std.specs.Option.{option_map_or}
use Rattle.yspec.specs.Forest.{Forest, relabelled}
use Rattle.yspec.specs.text.Text.{Text}
use Rattle.yspec.specs.types.Types.{YangType, Val, string_type}
use Rattle.yspec.specs.types.Values.{value_of_text}
use Rattle.yspec.specs.linking.Keyword.{Keyword}
use Rattle.yspec.specs.linking.Keyword as word
use Rattle.yspec.specs.linking.Arguments.{Name, key_of, unique_of, count_of, max_elements_of, status_of}
use Rattle.yspec.specs.linking.Source.{Source, Stated, stated_by, argument_in, argument_with, first_with, all_with}
use Rattle.yspec.specs.linking.Identities.{names_of}
use Rattle.yspec.specs.linking.DerivedTypes.{default_meant}
use Rattle.yspec.specs.linking.Prefixes.{NodeName, node_name}
use Rattle.yspec.specs.linking.Planned.{Planned, Plan, is_said, is_a, stated_in, node_of, child_called, way, meant_in, target_of, targets_of, type_of}
use Rattle.yspec.specs.schema.Schema.{SchemaNode, Kind, container, leaf, leaf_list, list, choice, case, by_type, LeafType, Absence, allowed, default_used, mandatory, key, Amount, Tuples, LeafPath, Status, current}

abbrev pub is_mandatory : Planned → Bool
is_mandatory p = option_map_or is_said (stated_in word.mandatory_word p) false

-- RFC 7950, 7.7.5 and 7.7.6
abbrev pub min_elements_of : Planned → ℕ
min_elements_of p = unwrap_or (option_and_then count_of (stated_in word.min_elements_word p)) 0

abbrev pub amount_of : Planned → Amount
amount_of p = record { min_elements = min_elements_of p; max_elements = unwrap_or (option_and_then max_elements_of (stated_in word.max_elements_word p)) None }

abbrev pub status_in : Planned → Status
status_in p = unwrap_or (option_and_then status_of (stated_in word.status_word p)) current

-- ---- keys and uniques (RFC 7950, 7.8.2 and 7.8.3)

-- The names of nodes that a statement of a node gives; one without a prefix is of the node's module.
abbrev pub nodes_named : Plan → Planned → Source → List Name → List NodeName
nodes_named plan p s names = map (node_name plan.modules s.home p.part.owner) names

abbrev pub key_names : Plan → Planned → List NodeName
key_names plan p = flat_map (λ s. nodes_named plan p s (unwrap_or (key_of (argument_in s)) []))
    (all_with word.key_word p.part.own)

-- the children that its key names
abbrev pub key_nodes : Plan → Planned → List Planned
key_nodes plan p = filter_map (child_called plan (Some p.number)) (key_names plan p)

abbrev pub number_in : Planned → ℕ
number_in p = p.number

abbrev pub key_numbers : Plan → Planned → List ℕ
key_numbers plan p = map number_in (key_nodes plan p)

-- the ways to the leafs of each `unique`; none where a name isn't found
abbrev pub unique_ways : Plan → Planned → List (List (Option (List Planned)))
unique_ways plan p = map (λ s. map (λ names. way plan (Some p.number) (nodes_named plan p s names)) (unwrap_or (unique_of (argument_in s)) []))
    (all_with word.unique_word p.part.own)

abbrev pub leaf_path : Option (List Planned) → LeafPath
leaf_path found = map number_in (unwrap_or found [])

abbrev pub tuples_of : Plan → Planned → Tuples
tuples_of plan p = record { keys = key_numbers plan p; uniques = map (map leaf_path) (unique_ways plan p) }

-- ---- defaults (RFC 7950, 7.6.1, 7.7.2 and 7.9.3)

abbrev pub own_defaults : Planned → List Stated
own_defaults p = map stated_by (all_with word.default_word p.part.own)

-- that of its type, where it may be without a value
abbrev pub type_default : Plan → Planned → Option Stated
type_default plan p = if is_mandatory p || nat_lt 0 (min_elements_of p) then None
    else option_and_then (default_meant plan.modules) (first_with word.type_word p.part.own)

-- its own defaults, or where it has none that of its type
abbrev pub default_texts : Plan → Planned → List Stated
default_texts plan p = defaults_or (option_map_or (λ t. t ∷ []) (type_default plan p) []) (own_defaults p)
  where
    defaults_or : List Stated → List Stated → List Stated
    defaults_or others [] = others
    defaults_or others (t ∷ ts) = t ∷ ts

-- what a type makes of a text of a module
abbrev pub value_stated : Plan → YangType → Stated → Option Val
value_stated plan type t = value_of_text (names_of plan.modules t.home) type t.text

-- what its type makes of a default; none that it doesn't take
abbrev pub default_value : Plan → Planned → Stated → Option Val
default_value plan p t = option_and_then (λ type. value_stated plan type t) (type_of plan p)

abbrev pub absent_by : Option Val → Absence
absent_by None = allowed
absent_by (Some v) = default_used v

abbrev pub first_value : List Val → Option Val
first_value [] = None
first_value (v ∷ vs) = Some v

abbrev pub default_values : Plan → Planned → List Val
default_values plan p = filter_map (default_value plan p) (default_texts plan p)

-- a key of its list, whatever it states besides; mandatory; or with a default
abbrev pub absence_of : Plan → Bool → Planned → Absence
absence_of plan is_its_key p = if is_its_key then key
    else (if is_mandatory p then mandatory else absent_by (first_value (default_values plan p)))

-- the case of a choice that is its default: one of its own module
abbrev pub default_case : Plan → Planned → Option Planned
default_case plan p = option_and_then
    (λ name. child_called plan (Some p.number) (record { module_number = Some p.part.owner; name = name }))
    (stated_in word.default_word p)

-- ---- kinds

-- the name of its type as its `type` statement has it, with its prefix; that of texts where it has none
abbrev pub type_name : Planned → Text
type_name p = unwrap_or (argument_with word.type_word p.part.own) (codes "string")

-- the type of a leaf or of items, and what it refers to
abbrev pub leaf_type : Plan → Planned → LeafType
leaf_type plan p = record {
  name = type_name p;
  type = unwrap_or (type_of plan p) string_type;
  target = option_map number_in (target_of plan p);
  targets = targets_of plan (type_of plan) p (meant_in plan p);
  form = by_type;
}

abbrev pub is_among : List ℕ → Planned → Bool
is_among numbers p = list_any (λ m. m == p.number) numbers

-- whether a node is a key of the list right above it
abbrev pub is_key : Plan → Planned → Bool
is_key plan p = option_map_or (λ above. is_a word.list_word above && is_among (key_numbers plan above) p)
    (option_and_then (node_of plan) p.parent) false

abbrev pub kind_by : Plan → Planned → Keyword → Kind
kind_by plan p word.container_word = container (is_some (stated_in word.presence_word p))
kind_by plan p word.leaf_word = leaf (leaf_type plan p) (absence_of plan (is_key plan p) p)
kind_by plan p word.leaf_list_word = leaf_list (leaf_type plan p) (default_values plan p) (amount_of p)
kind_by plan p word.list_word = list (tuples_of plan p) (amount_of p)
kind_by plan p word.choice_word = choice (option_map number_in (default_case plan p)) (is_mandatory p)
kind_by plan p _ = case

abbrev pub schema_node : Plan → Planned → SchemaNode
schema_node plan p = record {
  number = p.number;
  module_number = p.part.owner;
  name = argument_in p.part.source;
  config = p.config;
  distinct_items = p.config;
  status = status_in p;
  kind = kind_by plan p p.part.source.keyword;
}

abbrev pub schema_nodes : Plan → Forest SchemaNode
schema_nodes plan = relabelled (schema_node plan) plan.nodes
