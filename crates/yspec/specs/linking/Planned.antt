-- Parts with the numbers of their schema nodes, and what one finds by name among them (RFC 7950, 6.5, 7.8 and 9.9).
use Rattle.std.specs.Prelude.{ℕ, zero, suc, ◌+◌, ◌==◌, ◌&&◌, ◌||◌, Bool, true, false, not, List, [], ◌∷◌, map, codes, Option, Some, None, is_some, find, filter, length, option_map, option_and_then, nat_lt, if◌then◌else◌}
use Rattle.std.specs.List.{filter_map, flat_map, list_any, range_with_len}
use Rattle.std.specs.Option.{option_map_or, option_eq}
use Rattle.yspec.specs.Forest.{Forest, end, node, size, preorder}
use Rattle.yspec.specs.text.Text.{Text, is_text}
use Rattle.yspec.specs.types.Types.{YangType, Shape, single, union, type_in}
use Rattle.yspec.specs.types.Restriction.{members_of, member_count, union_type}
use Rattle.yspec.specs.schema.Schema.{MemberTarget}
use Rattle.yspec.specs.linking.Keyword.{Keyword}
use Rattle.yspec.specs.linking.Keyword as word
use Rattle.yspec.specs.linking.Source.{Source, is_source_of, argument_in, argument_with, first_with}
use Rattle.yspec.specs.linking.Arguments.{Name}
use Rattle.yspec.specs.linking.Parts.{Part}
use Rattle.yspec.specs.linking.Prefixes.{NodeName, node_name}
use Rattle.yspec.specs.linking.TypeStatements.{Member, own_member, leafref_member, Meant, own, of_target, of_union, member_limit}
use Rattle.yspec.specs.linking.DerivedTypes.{type_meant}
use Rattle.yspec.specs.linking.Identities.{module_name}

-- a part as it will be a schema node
pub record Planned : Type 0 where
  pub number : ℕ
  -- the number of the node above it
  pub parent : Option ℕ
  -- the number of the node whose children share its name: the data node above it, choices and cases passed through; of a
  -- case its choice
  pub scope : Option ℕ
  -- whether it is configuration (RFC 7950, 7.21.1)
  pub config : Bool
  pub part : Part

abbrev pub is_said : Text → Bool
is_said t = is_text t (codes "true")

-- it is what the part states, else what stands above it
abbrev pub config_of : Bool → Part → Bool
config_of above p = option_map_or is_said (argument_with word.config_word p.own) above

-- what stands around the nodes of a row: the node above them, the data node above them, the node whose children share
-- their names, and whether the node above them is configuration
pub record Around : Type 0 where
  pub parent : Option ℕ
  pub data_parent : Option ℕ
  pub scope : Option ℕ
  pub config : Bool

abbrev pub at_top : Around
at_top = record { parent = None; data_parent = None; scope = None; config = true }

abbrev pub data_parent_below : ℕ → Around → Part → Option ℕ
data_parent_below number around p = if is_source_of word.choice_word p.source || is_source_of word.case_word p.source
    then around.data_parent else Some number

-- what stands around the nodes below one
abbrev pub around_below : ℕ → Around → Part → Around
around_below number around p = record {
  parent = Some number;
  data_parent = data_parent_below number around p;
  scope = if is_source_of word.choice_word p.source then Some number else data_parent_below number around p;
  config = config_of around.config p;
}

abbrev pub planned_node : ℕ → Around → Part → Planned
planned_node number around p = record {
  number = number;
  parent = around.parent;
  scope = around.scope;
  config = config_of around.config p;
  part = p;
}

-- numbered in preorder from a number on
unfoldable pub planned : ℕ → Around → Forest Part → Forest Planned
planned next around end = end
planned next around (node p below after) = node (planned_node next around p)
    (planned (next + 1) (around_below next around p) below) (planned (next + suc (size below)) around after)

-- ---- a planned node

abbrev pub is_a : Keyword → Planned → Bool
is_a k p = is_source_of k p.part.source

abbrev pub stated_in : Keyword → Planned → Option Text
stated_in k p = argument_with k p.part.own

abbrev pub is_leaf_or_leaf_list : Planned → Bool
is_leaf_or_leaf_list p = is_a word.leaf_word p || is_a word.leaf_list_word p

-- A leaf and a leaf-list have a type; an `anydata` and an `anyxml`, which are as leafs otherwise, have none (RFC 7950, 7.10 and 7.11).
abbrev pub is_typed : Planned → Bool
is_typed p = is_some (stated_in word.type_word p)

abbrev pub is_leaf : Planned → Bool
is_leaf p = is_a word.leaf_word p && is_typed p

-- ---- by name

abbrev pub same_number : Option ℕ → Option ℕ → Bool
same_number = option_eq (λ m n. m == n)

abbrev pub is_called : NodeName → Planned → Bool
is_called name p = same_number name.module_number (Some p.part.owner) && is_text name.name (argument_in p.part.source)

-- ---- a whole set: the row of `module` statements, and the nodes that are planned

pub record Plan : Type 0 where
  pub modules : Forest Source
  pub nodes : Forest Planned

abbrev pub nodes_of : Plan → List Planned
nodes_of plan = preorder plan.nodes

-- the node of a number
abbrev pub node_of : Plan → ℕ → Option Planned
node_of plan number = find (λ p. p.number == number) (nodes_of plan)

-- the first node of a name below a node, or at the top, choices and cases being nodes as others
abbrev pub child_called : Plan → Option ℕ → NodeName → Option Planned
child_called plan parent name = find (λ p. same_number parent p.parent && is_called name p) (nodes_of plan)

-- the nodes along a way down
abbrev pub way : Plan → Option ℕ → List NodeName → Option (List Planned)
way plan parent [] = Some []
way plan parent (name ∷ names) =
    option_and_then (λ p. option_map (λ more. p ∷ more) (way plan (Some p.number) names)) (child_called plan parent name)

abbrev pub is_data : Planned → Bool
is_data p = not (is_a word.choice_word p || is_a word.case_word p)

abbrev pub data_nodes : Plan → List Planned
data_nodes plan = filter is_data (nodes_of plan)

-- the first data node of a name below a data node, or at the top, choices and cases passed through
abbrev pub data_child_called : Plan → Option ℕ → NodeName → Option Planned
data_child_called plan scope name = find (λ p. same_number scope p.scope && is_called name p) (data_nodes plan)

-- the data node to which a path leads
abbrev pub data_node_at : Plan → Option ℕ → List NodeName → Option Planned
data_node_at plan scope [] = None
data_node_at plan scope (name ∷ []) = data_child_called plan scope name
data_node_at plan scope (name ∷ next ∷ names) =
    option_and_then (λ p. data_node_at plan (Some p.number) (next ∷ names)) (data_child_called plan scope name)

-- ---- types

-- what the `type` statement of a node means
abbrev pub meant_in : Plan → Planned → Option Meant
meant_in plan p = option_and_then (λ s. type_meant plan.modules s.number) (first_with word.type_word p.part.own)

-- ---- leafrefs

abbrev pub leaf_found : Option Planned → Option Planned
leaf_found found = option_and_then (λ p. if is_typed p then Some p else None) found

-- the leaf or leaf-list to which a path leads that stands in a module and in the type of a node
abbrev pub path_target : Plan → Planned → ℕ → List Name → Option Planned
path_target plan p home steps = leaf_found (data_node_at plan None (map (node_name plan.modules home p.part.owner) steps))

abbrev pub target_meant : Plan → Planned → Meant → Option Planned
target_meant plan p (own type) = None
target_meant plan p (of_target home steps required) = path_target plan p home steps
target_meant plan p (of_union members) = None

-- the leaf or leaf-list to which a leafref refers
abbrev pub target_of : Plan → Planned → Option Planned
target_of plan p = option_and_then (target_meant plan p) (meant_in plan p)

-- a leafref has the values of its target's type (RFC 7950, 9.9)
abbrev pub referring : Bool → YangType → YangType
referring required type = record { shape = type.shape; requires_instance = Some required }

-- the leafs and leaf-lists to which the members of a union refer
abbrev pub member_target : Plan → Planned → Member → Option Planned
member_target plan p (own_member type) = None
member_target plan p (leafref_member home steps required) = path_target plan p home steps

abbrev pub targets_meant : Plan → Planned → Meant → List Planned
targets_meant plan p (of_union members) = filter_map (member_target plan p) members
targets_meant plan p _ = []

abbrev pub member_targets : Plan → Planned → List Planned
member_targets plan p = option_map_or (targets_meant plan p) (meant_in plan p) []

-- the types of the members of a union, where each has one
abbrev pub member_type : Plan → (Planned → Option YangType) → Planned → Member → Option YangType
member_type plan others p (own_member type) = Some type
member_type plan others p (leafref_member home steps required) = option_and_then others (path_target plan p home steps)

abbrev pub member_types : Plan → (Planned → Option YangType) → Planned → List Member → Option (List YangType)
member_types plan others p [] = Some []
member_types plan others p (m ∷ ms) =
    option_and_then (λ type. option_map (λ types. type ∷ types) (member_types plan others p ms)) (member_type plan others p m)

-- a union of no more members than are read, those of what its leafrefs lead to included
abbrev pub is_too_wide : List YangType → Bool
is_too_wide types = nat_lt member_limit (member_count (union_type types))

abbrev pub union_within : List YangType → Option YangType
union_within types = if is_too_wide types then None else Some (union_type types)

abbrev pub type_by : Plan → (Planned → Option YangType) → Planned → Meant → Option YangType
type_by plan others p (own type) = Some type
type_by plan others p (of_target home steps required) =
    option_map (referring required) (option_and_then others (target_meant plan p (of_target home steps required)))
type_by plan others p (of_union members) = option_and_then union_within (member_types plan others p members)

-- the type that leads there by fewer leafrefs than a number
unfoldable pub type_within : Plan → ℕ → Planned → Option YangType
type_within plan zero p = None
type_within plan (suc steps) p = option_and_then (type_by plan (type_within plan steps) p) (meant_in plan p)

-- the type of a leaf or leaf-list, in its own module; none where a leafref leads nowhere, or in a circle, or to too many members
abbrev pub type_of : Plan → Planned → Option YangType
type_of plan p = option_map (type_in (module_name plan.modules p.part.owner)) (type_within plan (suc (size plan.nodes)) p)

-- whether a leafref leads to the node of a number, within so many steps, itself or as a member of a union
unfoldable pub leads_to : Plan → ℕ → ℕ → Planned → Bool
leads_to plan zero number p = false
leads_to plan (suc steps) number p = option_map_or (λ t. t.number == number || leads_to plan steps number t) (target_of plan p) false
    || list_any (λ t. t.number == number || leads_to plan steps number t) (member_targets plan p)

abbrev pub is_on_circle : Plan → Planned → Bool
is_on_circle plan p = leads_to plan (size plan.nodes) p.number p

-- ---- what the members of a union refer to

-- what those refer to that a target's type has
abbrev pub targets_by : ℕ → Bool → Shape → List (Option MemberTarget)
targets_by number required (single type) = Some (record { target = number; member = None; is_required = required }) ∷ []
targets_by number required (union types) =
    map (λ i. Some (record { target = number; member = Some i; is_required = required })) (range_with_len 0 (length types))

-- those of a member, given the types of nodes
abbrev pub targets_in : Plan → (Planned → Option YangType) → Planned → Member → List (Option MemberTarget)
targets_in plan types p (own_member type) = map (λ s. None) (members_of type.shape)
targets_in plan types p (leafref_member home steps required) =
    option_map_or (λ t. option_map_or (λ type. targets_by t.number required type.shape) (types t) []) (path_target plan p home steps) []

-- those of each member of a union that a node has for its type, of which some are leafrefs'
abbrev pub union_targets : Plan → (Planned → Option YangType) → Planned → Meant → List (Option MemberTarget)
union_targets plan types p (of_union members) = flat_map (targets_in plan types p) members
union_targets plan types p _ = []

-- none of a node that has no type
abbrev pub targets_of : Plan → (Planned → Option YangType) → Planned → Option Meant → List (Option MemberTarget)
targets_of plan types p meant = option_map_or (λ type. option_map_or (union_targets plan types p) meant []) (types p) []
