-- The rules that planned nodes break: C11 to C13 and C15 to C17 (RFC 7950, 6.2.1, 7.6 to 7.9, 7.17, 7.21.1 and 9.9).
use Rattle.std.specs.Prelude.{ℕ, ◌++◌, ◌==◌, ◌&&◌, ◌||◌, Bool, true, false, not, List, [], ◌∷◌, map, Option, Some, None, is_some, option_and_then, unwrap_or, if◌then◌else◌, nat_lt}
use Rattle.std.specs.List.{list_any, list_all, flat_map}
use Rattle.std.specs.Option.{option_map_or}
use Rattle.yspec.specs.Forest.{Forest, end, node, find_below}
use Rattle.yspec.specs.text.Text.{Text, is_text}
use Rattle.yspec.specs.types.Types.{YangType}
use Rattle.yspec.specs.types.Order.{same_value}
use Rattle.yspec.specs.linking.Keyword.{Keyword}
use Rattle.yspec.specs.linking.Keyword as word
use Rattle.yspec.specs.linking.Source.{Stated, argument_in}
use Rattle.yspec.specs.linking.Scopes.{statement_at}
use Rattle.yspec.specs.linking.TypeStatements.{Member, own_member, leafref_member, Meant, own, of_target, of_union}
use Rattle.yspec.specs.linking.Planned.{Planned, Plan, same_number, nodes_of, node_of, child_called, is_a, is_leaf_or_leaf_list, stated_in, is_leaf, meant_in, path_target, target_meant, type_of, is_on_circle}
use Rattle.yspec.specs.linking.SchemaNodes.{is_mandatory, min_elements_of, key_names, key_numbers, unique_ways, own_defaults, default_texts, value_stated, default_case, is_key}
use Rattle.yspec.specs.schema.Breaks.{Break, broken, when}

-- a rule that is broken is told at the node's statement
abbrev pub broken_at : ℕ → Planned → List Break
broken_at code p = broken code p.part.source.home p.part.source.statement.line

-- ---- C13: names that come twice

abbrev pub same_name : Planned → Planned → Bool
same_name p q = p.part.owner == q.part.owner && is_text (argument_in p.part.source) (argument_in q.part.source)

abbrev pub is_like : Planned → Planned → Bool
is_like p q = same_number p.scope q.scope && same_name p q

-- each of a list that an earlier one is like, `before` being earlier ones
abbrev pub doubled : List Planned → List Planned → List Break
doubled before [] = []
doubled before (p ∷ others) = when (list_any (is_like p) before) (broken_at 13 p) ++ doubled (before ++ p ∷ []) others

abbrev pub name_breaks : Plan → List Break
name_breaks plan = doubled [] (nodes_of plan)

-- ---- C16: configuration below state, and a configuration list without a key

abbrev pub is_config_above : Plan → Planned → Bool
is_config_above plan p = option_map_or (λ above. above.config) (option_and_then (node_of plan) p.parent) true

abbrev pub config_breaks : Plan → Planned → List Break
config_breaks plan p = when (p.config && (not (is_config_above plan p) || (is_a word.list_word p && not (is_some (stated_in word.key_word p)))))
    (broken_at 16 p)

-- ---- C12: keys and uniques

abbrev pub is_key_leaf : Planned → Planned → Bool
is_key_leaf list p = is_leaf p && (p.part.owner == list.part.owner && same_config list.config p.config)
  where
    same_config : Bool → Bool → Bool
    same_config true b = b
    same_config false b = not b

abbrev pub has_twice : List ℕ → Bool
has_twice [] = false
has_twice (n ∷ ns) = list_any (λ m. m == n) ns || has_twice ns

-- each name is that of a leaf right below the list, and none comes twice
abbrev pub is_wrong_key : Plan → Planned → Bool
is_wrong_key plan p = not (list_all (λ name. option_map_or (is_key_leaf p) (child_called plan (Some p.number) name) false) (key_names plan p))
    || has_twice (key_numbers plan p)

-- the leaf to which a way through containers leads
abbrev pub leaf_behind : List Planned → Option Planned
leaf_behind [] = None
leaf_behind (p ∷ []) = if is_leaf p then Some p else None
leaf_behind (p ∷ q ∷ more) = if is_a word.container_word p then leaf_behind (q ∷ more) else None

abbrev pub leaf_named : Option (List Planned) → Option Planned
leaf_named found = option_and_then leaf_behind found

abbrev pub is_config : Bool → Option Planned → Bool
is_config true p = option_map_or (λ q. q.config) p false
is_config false p = option_map_or (λ q. not q.config) p false

-- its leafs are all configuration, or all state
abbrev pub is_wrong_unique : List (Option (List Planned)) → Bool
is_wrong_unique ways = let leafs = map leaf_named ways in
    not (list_all (is_config true) leafs || list_all (is_config false) leafs)

abbrev pub tuple_breaks : Plan → Planned → List Break
tuple_breaks plan p = when (is_a word.list_word p && (is_wrong_key plan p || list_any is_wrong_unique (unique_ways plan p)))
    (broken_at 12 p)

-- ---- C17: leafrefs that lead nowhere, in a circle, or from configuration to state, those among the members of unions too

abbrev pub is_wrong_target : Planned → Bool → Option Planned → Bool
is_wrong_target p required None = true
is_wrong_target p required (Some target) = p.config && (required && not target.config)

abbrev pub is_wrong_member : Plan → Planned → Member → Bool
is_wrong_member plan p (own_member type) = false
is_wrong_member plan p (leafref_member home steps required) = is_wrong_target p required (path_target plan p home steps)

abbrev pub is_wrong_reference : Plan → Planned → Meant → Bool
is_wrong_reference plan p (own type) = false
is_wrong_reference plan p (of_target home steps required) =
    is_wrong_target p required (target_meant plan p (of_target home steps required)) || is_on_circle plan p
is_wrong_reference plan p (of_union members) = list_any (is_wrong_member plan p) members || is_on_circle plan p

abbrev pub reference_breaks : Plan → Planned → List Break
reference_breaks plan p = when (is_leaf_or_leaf_list p && option_map_or (is_wrong_reference plan p) (meant_in plan p) false)
    (broken_at 17 p)

-- ---- C11: defaults

abbrev pub is_empty : List Stated → Bool
is_empty [] = true
is_empty (t ∷ ts) = false

abbrev pub is_refused : Plan → YangType → Stated → Bool
is_refused plan type t = not (is_some (value_stated plan type t))

-- of a leaf that is no key
abbrev pub is_wrong_default : Plan → Planned → YangType → Bool
is_wrong_default plan p type =
    if is_mandatory p then not (is_empty (own_defaults p)) else list_any (is_refused plan type) (default_texts plan p)

abbrev pub same_default : Plan → YangType → Stated → Stated → Bool
same_default plan type t u = option_map_or (λ v. option_map_or (same_value v) (value_stated plan type u) false) (value_stated plan type t) false

abbrev pub has_equal : Plan → YangType → List Stated → Bool
has_equal plan type [] = false
has_equal plan type (t ∷ ts) = list_any (same_default plan type t) ts || has_equal plan type ts

abbrev pub are_wrong_defaults : Plan → Planned → YangType → Bool
are_wrong_defaults plan p type = if nat_lt 0 (min_elements_of p) then not (is_empty (own_defaults p))
    else list_any (is_refused plan type) (default_texts plan p) || (p.config && has_equal plan type (default_texts plan p))

-- whether a node must be stored, given that of those below it; a case needn't (RFC 7950, 3)
abbrev pub must_be : Planned → Bool → Bool
must_be p inside = if is_a word.leaf_word p || is_a word.choice_word p then is_mandatory p
    else (if is_a word.leaf_list_word p || is_a word.list_word p then nat_lt 0 (min_elements_of p)
    else (is_a word.container_word p && (not (is_some (stated_in word.presence_word p)) && inside)))

abbrev pub has_mandatory : Forest Planned → Bool
has_mandatory end = false
has_mandatory (node p below after) = must_be p (has_mandatory below) || has_mandatory after

-- what stands below the node of a number
abbrev pub row_below : Plan → ℕ → Forest Planned
row_below plan number = unwrap_or (find_below (λ p. p.number == number) plan.nodes) end

-- whether the node itself must be
abbrev pub is_needed : Plan → Planned → Bool
is_needed plan p = must_be p (has_mandatory (row_below plan p.number))

abbrev pub is_wrong_case : Plan → Planned → Option Planned → Bool
is_wrong_case plan p None = true
is_wrong_case plan p (Some found) = is_mandatory p || has_mandatory (row_below plan found.number)

abbrev pub is_default_wrong : Plan → Planned → Bool
is_default_wrong plan p = if is_a word.leaf_word p
    then not (is_key plan p) && option_map_or (is_wrong_default plan p) (type_of plan p) false
    else (if is_a word.leaf_list_word p then option_map_or (are_wrong_defaults plan p) (type_of plan p) false
    else (is_a word.choice_word p && (is_some (stated_in word.default_word p) && is_wrong_case plan p (default_case plan p))))

abbrev pub default_breaks : Plan → Planned → List Break
default_breaks plan p = when (is_default_wrong plan p) (broken_at 11 p)

-- ---- C15: configuration that must be, added to a node of another module

abbrev pub is_foreign : Planned → Option Planned → Bool
is_foreign p above = option_map_or (λ a. not (a.part.owner == p.part.owner)) above false

-- told at the `augment` of a number
abbrev pub broken_in : Plan → ℕ → List Break
broken_in plan number =
    option_map_or (λ a. broken 15 a.source.home a.source.statement.line) (statement_at plan.modules number) []

abbrev pub addition_breaks : Plan → Planned → List Break
addition_breaks plan p = when (is_foreign p (option_and_then (node_of plan) p.parent) && (p.config && is_needed plan p))
    (option_map_or (broken_in plan) p.part.added_by [])

-- ---- all of them

abbrev pub own_breaks : Plan → Planned → List Break
own_breaks plan p =
    config_breaks plan p ++ (tuple_breaks plan p ++ (reference_breaks plan p ++ (default_breaks plan p ++ addition_breaks plan p)))

abbrev pub node_breaks : Plan → List Break
node_breaks plan = flat_map (own_breaks plan) (nodes_of plan)
