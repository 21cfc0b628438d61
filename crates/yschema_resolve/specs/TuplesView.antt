-- What the statements of a list name.
use Rattle.std.specs.Prelude.{ℕ, List, [], map, Option, Some, option_map, unwrap_or, if◌then◌else◌}
use Rattle.std.specs.List.{flat_map}
use Rattle.std.specs.Global.{Vec}
use Rattle.yspec.specs.linking.Keyword.{key_word, list_word}
use Rattle.yspec.specs.linking.Arguments.{key_of, unique_of}
use Rattle.yspec.specs.linking.Source.{Source, argument_in, all_with}
use Rattle.yspec.specs.linking.Planned.{Planned, Plan, is_a, child_called, way}
use Rattle.yspec.specs.linking.SchemaNodes.{nodes_named, key_numbers}
use Rattle.yschema_plan.specs.NodesView.{node_view}
use Rattle.yschema_plan.specs.declared.nodes.PlanNode.{PlanNode}

-- the nodes along a way down, and those of each way of a `unique`
abbrev pub way_view : Option (Vec PlanNode) → Option (List Planned)
way_view way = option_map (λ nodes. map node_view nodes.items) way

abbrev pub ways_view : Vec (Option (Vec PlanNode)) → List (Option (List Planned))
ways_view ways = map way_view ways.items

-- of each name that a `key` gives the child that it names
abbrev pub children_named : Plan → Planned → Source → List (Option Planned)
children_named plan p s = map (child_called plan (Some p.number)) (nodes_named plan p s (unwrap_or (key_of (argument_in s)) []))

-- of all the names that the `key`s of a list give
abbrev pub children_by : Plan → Planned → List (Option Planned)
children_by plan p = flat_map (children_named plan p) (all_with key_word p.part.own)

-- the ways that a `unique` gives
abbrev pub ways_named : Plan → Planned → Source → List (Option (List Planned))
ways_named plan p s = map (λ names. way plan (Some p.number) (nodes_named plan p s names)) (unwrap_or (unique_of (argument_in s)) [])

-- the numbers of the keys that a node has, which only lists have
abbrev pub keys_of : Plan → Planned → List ℕ
keys_of plan p = if is_a list_word p then key_numbers plan p else []
