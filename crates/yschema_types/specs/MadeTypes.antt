-- What is made of the types of nodes, by what is made of those to which they refer.
use Rattle.std.specs.Prelude.{◌≡◌, ◌≤◌, ◌<◌, ◌≢◌, ℕ, zero, suc, Bool, true, false, List, [], Option, Some, None, get_or, length, map, option_map, option_and_then, slice_get, unwrap_or, if◌then◌else◌}
use Rattle.std.specs.List.{flat_map, range_with_len}
use Rattle.std.specs.List.Sorted.{IsPermutation}
use Rattle.std.specs.Option.{option_map_or}
use Rattle.yspec.specs.Forest.{size}
use Rattle.yspec.specs.text.Text.{Text}
use Rattle.yspec.specs.types.Types.{YangType, type_in}
use Rattle.yspec.specs.types.Restriction.{union_type}
use Rattle.yspec.specs.schema.Schema.{MemberTarget}
use Rattle.yspec.specs.linking.Graph.{is_on_circle}
use Rattle.yspec.specs.linking.Identities.{module_name}
use Rattle.yspec.specs.linking.TypeStatements.{Meant, own, of_target, of_union}
use Rattle.yspec.specs.linking.Planned.{Planned, Plan, nodes_of, referring, path_target, member_types, is_too_wide, type_by, targets_by, targets_in}
use Rattle.ybase_graph.specs.Reaching.{HasEdge, StandsBefore}
use Rattle.yschema_types.specs.MeantNodes.{meant_at}
use Rattle.yschema_types.specs.ReferenceEdges.{edges_of}

pub data Made : Type 0 where
  -- there is no type
  nothing : Made
  -- none, since a union has too many members with those of what its leafrefs lead to
  too_wide : Made
  -- a type, and of a union with leafrefs what each member refers to
  typed : YangType → List (Option MemberTarget) → Made

abbrev pub type_made : Made → Option YangType
type_made nothing = None
type_made too_wide = None
type_made (typed type targets) = Some type

abbrev pub targets_made : Made → List (Option MemberTarget)
targets_made nothing = []
targets_made too_wide = []
targets_made (typed type targets) = targets

abbrev pub is_wide_made : Made → Bool
is_wide_made nothing = false
is_wide_made too_wide = true
is_wide_made (typed type targets) = false

-- ---- what the members of a leafref refer to

-- as each member of the target's type, which is a union
abbrev pub each_target : ℕ → Bool → ℕ → Option MemberTarget
each_target number required i = Some (record { target = number; member = Some i; is_required = required })

-- as one that is no union
abbrev pub one_target : ℕ → Bool → Option MemberTarget
one_target number required = Some (record { target = number; member = None; is_required = required })

-- to nothing
abbrev pub no_target : Option MemberTarget
no_target = None

-- to a node, by the types that are held
abbrev pub targets_to : (Planned → Option YangType) → Bool → Planned → List (Option MemberTarget)
targets_to types required t = option_map_or (λ type. targets_by t.number required type.shape) (types t) []

-- ---- of one node

abbrev pub typed_in : Text → List (Option MemberTarget) → YangType → Made
typed_in home targets type = typed (type_in home type) targets

-- a union of types, unless these have too many members together
abbrev pub joined : Text → List (Option MemberTarget) → List YangType → Made
joined home targets types = if is_too_wide types then too_wide else typed_in home targets (union_type types)

-- of a node in a module of a name, by what its type means and by the types of other nodes
abbrev pub made_by : Text → Plan → (Planned → Option YangType) → Planned → Meant → Made
made_by home plan types p (own type) = typed_in home [] type
made_by home plan types p (of_target at steps required) =
    option_map_or (λ type. typed_in home [] (referring required type)) (option_and_then types (path_target plan p at steps)) nothing
made_by home plan types p (of_union members) =
    option_map_or (joined home (flat_map (targets_in plan types p) members)) (member_types plan types p members) nothing

-- given what modules are called
abbrev pub made_as : (ℕ → Text) → Plan → (Planned → Option YangType) → Planned → Option Meant → Made
made_as homes plan types p meant = option_map_or (made_by (homes p.part.owner) plan types p) meant nothing

-- ---- of nodes by number

abbrev pub made_at : List Made → ℕ → Made
made_at row number = unwrap_or (slice_get row number) nothing

abbrev pub types_held : List Made → Planned → Option YangType
types_held row t = type_made (made_at row t.number)

-- of the node of a number, by what is held of others
abbrev pub made_node : (ℕ → Text) → Plan → List (Option Meant) → List Made → ℕ → Made
made_node homes plan meants row number =
    option_map_or (λ p. made_as homes plan (types_held row) p (meant_at meants number)) (slice_get (nodes_of plan) number) nothing

-- ---- of all nodes

-- the type of a node, by way of fewer references than a number, given what types mean
unfoldable pub within_as : Plan → (Planned → Option Meant) → ℕ → Planned → Option YangType
within_as plan meant zero p = None
within_as plan meant (suc steps) p = option_and_then (type_by plan (within_as plan meant steps) p) (meant p)

-- in its own module
abbrev pub found_as : Plan → (Planned → Option Meant) → ℕ → Planned → Option YangType
found_as plan meant steps p = option_map (type_in (module_name plan.modules p.part.owner)) (within_as plan meant steps p)

abbrev pub type_as : Plan → (Planned → Option Meant) → Planned → Option YangType
type_as plan meant = found_as plan meant (suc (size plan.nodes))

pub record AreTypes (row : List Made) (plan : Plan) (meant : Planned → Option Meant) : Type 0 where
  pub types : map type_made row ≡ map (type_as plan meant) (nodes_of plan)
  pub made : row ≡ map (λ p. made_as (module_name plan.modules) plan (type_as plan meant) p (meant p)) (nodes_of plan)

-- ---- in an order

-- All nodes, each once: what an edge that lies on no circle leads to stands before where it begins.
pub record IsOrder (order : List ℕ) (plan : Plan) (meant : Planned → Option Meant) : Type 0 where
  pub all : IsPermutation (range_with_len 0 (size plan.nodes)) order
  pub behind : (a b : ℕ) → HasEdge (edges_of plan meant) a b
      → is_on_circle (edges_of plan meant) (record { source = a; target = b }) ≡ false → StandsBefore order b a

-- Those of the first so many are made: of each it is what it is over the types that are found by as many steps as were made, or by
-- more. Nothing is made of others.
pub record AreMade (plan : Plan) (meant : Planned → Option Meant) (order : List ℕ) (row : List Made) (i : ℕ) : Type 0 where
  pub reached : i ≤ length order
  pub count : length row ≡ length (nodes_of plan)
  pub done : (j steps : ℕ) → j < i → j < length order → i ≤ suc steps → (p : Planned) → slice_get (nodes_of plan) (get_or order j 0) ≡ Some p
      → made_at row (get_or order j 0) ≡ made_as (module_name plan.modules) plan (found_as plan meant steps) p (meant p)
  pub others : (m : ℕ) → ((j : ℕ) → j < i → j < length order → get_or order j 0 ≢ m) → type_made (made_at row m) ≡ None
