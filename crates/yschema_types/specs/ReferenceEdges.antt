-- The references of a plan's nodes as the edges of a graph (RFC 7950, 9.9 and 9.12).
use Rattle.std.specs.Prelude.{ℕ, Bool, false, List, [], ◌∷◌, Option, map, option_to_list, replicate, if◌then◌else◌}
use Rattle.std.specs.List.{filter_map, flat_map}
use Rattle.std.specs.Option.{option_map_or}
use Rattle.yspec.specs.linking.Graph.{Edge, is_on_circle}
use Rattle.yspec.specs.linking.TypeStatements.{Meant, own, of_target, of_union}
use Rattle.yspec.specs.linking.Planned.{Planned, Plan, nodes_of, path_target, member_target}
use Rattle.yschema_types.specs.Marks.{marked_by}

-- the leafs and leaf-lists to which a meaning of a node's type refers, as a leafref or by the members of a union
abbrev pub all_targets : Plan → Planned → Meant → List Planned
all_targets plan p (own type) = []
all_targets plan p (of_target home steps required) = option_to_list (path_target plan p home steps)
all_targets plan p (of_union members) = filter_map (member_target plan p) members

abbrev pub nodes_meant : Plan → Planned → Option Meant → List Planned
nodes_meant plan p meant = option_map_or (all_targets plan p) meant []

-- from the node of a number to another node
abbrev pub edge_from : ℕ → Planned → Edge
edge_from number t = record { source = number; target = t.number }

abbrev pub edges_by : Plan → Planned → Option Meant → List Edge
edges_by plan p meant = map (edge_from p.number) (nodes_meant plan p meant)

-- those of all nodes, by what their types mean
abbrev pub edges_of : Plan → (Planned → Option Meant) → List Edge
edges_of plan meant = flat_map (λ p. edges_by plan p (meant p)) (nodes_of plan)

-- ---- which nodes lie on circles

abbrev pub source_on : List Edge → Edge → List ℕ
source_on edges e = if is_on_circle edges e then e.source ∷ [] else []

-- of each of so many nodes, whether an edge begins there that lies on a circle
abbrev pub circled : ℕ → List Edge → List Bool
circled count edges = marked_by (source_on edges) (replicate count false) edges
