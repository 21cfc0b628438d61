-- The values that the targets of leafrefs have (RFC 7950, 9.9).
use Rattle.std.specs.Prelude.{◌≡◌, ℕ, ◌+◌, ◌==◌, Bool, true, false, not, ◌&&◌, ◌||◌, List, [], ◌++◌, Option, Some, None, option_and_then, option_to_list, is_some, nat_lt, count_by, sum_by, if◌then◌else◌}
use Rattle.std.specs.Option.{option_map_or}
use Rattle.std.specs.List.{filter_map, list_any}
use Rattle.std.specs.Map.{lookup}
use Rattle.std.specs.BTreeSet.{BTreeSet, contains}
use Rattle.yspec.specs.Forest.{Forest, preorder, weigh_nodes}
use Rattle.yspec.specs.types.Types.{Val}
use Rattle.yspec.specs.types.Order.{value_cmp, same_value}
use Rattle.yspec.specs.schema.Schema.{Schema, SchemaNode, Kind, LeafType, MemberTarget, Absence, default_used, type_in}
use Rattle.yspec.specs.schema.References.{requires_instance}
use Rattle.yspec.specs.document.Document.{Stored, Tree}
use Rattle.yspec.specs.document.Play.{items_in_play}
use Rattle.yspec.specs.document.Instances.{is_value, value_of, times_in_use, times_below, times_at, times_in}
use Rattle.yspec.specs.document.Faults.{Times}
use Rattle.ycheck.specs.declared.targets.Targets.{Targets}

-- ---- targets

-- the schema node to which a member of a union refers, where an instance of it is required
abbrev pub required_number : MemberTarget → Option ℕ
required_number m = if m.is_required then Some m.target else None

abbrev pub required_by_members : List (Option MemberTarget) → List ℕ
required_by_members targets = filter_map (option_and_then required_number) targets

abbrev pub required_where : Bool → Option ℕ → List ℕ
required_where is_required target = if is_required then option_to_list target else []

-- the schema nodes to which the values of a type refer, where instances of them are required
abbrev pub required_in : LeafType → List ℕ
required_in type = required_where (requires_instance type.type) type.target ++ required_by_members type.targets

-- and those of a node
abbrev pub required_targets : Kind → List ℕ
required_targets kind = option_map_or required_in (type_in kind) []

abbrev pub is_among : ℕ → List ℕ → Bool
is_among number numbers = list_any (λ n. n == number) numbers

abbrev pub refers_to : ℕ → SchemaNode → Bool
refers_to number n = is_among number (required_targets n.kind)

-- whether a node of a row, or one below it, refers to the schema node of a number
abbrev pub is_target_in : Forest SchemaNode → ℕ → Bool
is_target_in nodes number = list_any (refers_to number) (preorder nodes)

abbrev pub is_target : Schema → ℕ → Bool
is_target schema number = is_target_in schema.nodes number

-- ---- their values

-- the values that are kept of the schema node of a number, where any are to be
abbrev pub kept : Targets → ℕ → Option (BTreeSet Val)
kept targets number = lookup (λ id. id.0 == number) targets.sets.entries

abbrev pub is_kept : Targets → ℕ → Bool
is_kept targets number = is_some (kept targets number)

-- whether a value is among them
abbrev pub holds : Targets → ℕ → Val → Bool
holds targets number v = option_map_or (λ values. contains value_cmp values v) (kept targets number) false

-- Of each target that the schema requires an instance of, they hold the values that an instance has, in use ones included.
abbrev pub HasValues : Targets → Schema → Tree → Type 0
HasValues targets schema tree = (number : ℕ) (v : Val) → is_target schema number ≡ true
    → holds targets number v ≡ not (times_in schema tree number v == 0)

-- ---- while they are gathered

-- They are kept of these schema nodes besides.
abbrev pub KeepsMore : Targets → Targets → List ℕ → Type 0
KeepsMore old new numbers = (number : ℕ) → is_kept new number ≡ (is_kept old number || is_among number numbers)

-- Of each schema node the same values are held.
abbrev pub HoldsSame : Targets → Targets → Type 0
HoldsSame old new = (number : ℕ) (v : Val) → holds new number v ≡ holds old number v

-- They are kept of the same schema nodes as before, and hold besides what instances have, so often as said.
abbrev pub Gathers : Targets → Targets → Times → Type 0
Gathers old new times = (number : ℕ) (v : Val) → (is_kept new number ≡ is_kept old number)
    × (holds new number v ≡ (holds old number v || (is_kept old number && nat_lt 0 (times number v))))

-- one value of the schema node of a number
abbrev pub one_value : ℕ → Val → Times
one_value m value number v = if m == number then (if same_value v value then 1 else 0) else 0

-- several values of it
abbrev pub some_values : ℕ → List Val → Times
some_values m values number v = if m == number then count_by (same_value v) values else 0

-- the default of a leaf
abbrev pub default_value : ℕ → Absence → Times
default_value m (default_used value) = one_value m value
default_value m _ = λ number v. 0

-- the valid value of a stored node
abbrev pub own_value : Schema → Stored → Times
own_value schema s number v = if s.schema_number == number then (if is_value v (value_of schema s) then 1 else 0) else 0

-- what is in use unstored among the children of a row of which so many are stored
abbrev pub times_used : (ℕ → ℕ) → List ℕ → Forest SchemaNode → Times
times_used stored chosen nodes number v = sum_by (times_in_use number v) (items_in_play stored chosen [] nodes)

-- what is in use in a row, and stored in it and below
abbrev pub times_of_row : Schema → Forest SchemaNode → Tree → Times
times_of_row schema nodes row number v = times_below schema number v nodes row + weigh_nodes (times_at schema number v) row

-- the value of a stored node, and what is in use and stored below it
abbrev pub times_of_node : Schema → Stored → Tree → Times
times_of_node schema s below number v = times_at schema number v s below + weigh_nodes (times_at schema number v) below
