-- What values refer to by leafrefs, and the nodes of a schema that refer to a node (RFC 7950, 9.9 and 9.12).
use Rattle.std.specs.Prelude.{ℕ, ◌==◌, ◌++◌, ◌&&◌, ◌||◌, Bool, true, false, List, [], ◌∷◌, is_some, map, filter, Option, Some, None, option_map, option_and_then, option_to_list, slice_get, unwrap_or}
use Rattle.std.specs.List.{filter_map, list_any}
use Rattle.std.specs.Option.{option_map_or}
use Rattle.yspec.specs.Forest.{Forest, preorder}
use Rattle.yspec.specs.types.Types.{Val, YangType, value}
use Rattle.yspec.specs.schema.Schema.{Schema, SchemaNode, Kind, LeafType, MemberTarget, type_in}

-- ---- what a value refers to

abbrev pub requires_instance : YangType → Bool
requires_instance type = unwrap_or type.requires_instance false

-- the number of a node, the value that an instance of it has, and whether there must be one
pub record Reference : Type 0 where
  pub target : ℕ
  pub value : Val
  pub is_required : Bool

-- that of a leafref, whose values are those of its target
abbrev pub whole_reference : LeafType → Val → ℕ → Reference
whole_reference type v target = record { target = target; value = v; is_required = requires_instance type.type }

-- what the member refers to that took a value of a union
abbrev pub member_target : List (Option MemberTarget) → Val → Option MemberTarget
member_target targets v = option_and_then (λ n. unwrap_or (slice_get targets n) None) v.member

-- The value is looked for as it is read where its target stands.
abbrev pub member_reference : Val → MemberTarget → Reference
member_reference v m = record { target = m.target; value = value m.member v.content; is_required = m.is_required }

-- what a value of a leaf or an item refers to
abbrev pub reference_in : LeafType → Val → Option Reference
reference_in type v = option_map_or (λ target. Some (whole_reference type v target))
    type.target (option_map (member_reference v) (member_target type.targets v))

-- whether any member is a leafref's
abbrev pub has_leafrefs : List (Option MemberTarget) → Bool
has_leafrefs [] = false
has_leafrefs (m ∷ ms) = true

-- whether any value may refer to something that must be there
abbrev pub may_require : LeafType → Bool
may_require type = (is_some type.target && requires_instance type.type) || has_leafrefs type.targets

-- ---- who refers to a node

abbrev pub number_of : MemberTarget → ℕ
number_of m = m.target

-- the nodes to which the values of a type refer
abbrev pub numbers_in : LeafType → List ℕ
numbers_in type = option_to_list type.target ++ filter_map (option_map number_of) type.targets

abbrev pub targets_in : Kind → List ℕ
targets_in kind = option_map_or numbers_in (type_in kind) []

abbrev pub refers_to : ℕ → SchemaNode → Bool
refers_to number n = list_any (λ target. target == number) (targets_in n.kind)

-- their numbers, in order
abbrev pub references_in : Forest SchemaNode → ℕ → List ℕ
references_in nodes number = map (λ n. n.number) (filter (refers_to number) (preorder nodes))

abbrev pub references_to : Schema → ℕ → List ℕ
references_to schema number = references_in schema.nodes number
