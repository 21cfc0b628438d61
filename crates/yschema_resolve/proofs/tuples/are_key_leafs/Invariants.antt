use Rattle.std.proofs.Common.{◌≡◌, drop, map, option_map, false}
use Rattle.std.specs.List.{list_all}
use Rattle.std.specs.Option.{option_map_or}
use Rattle.yspec.specs.linking.NodeBreaks.{is_key_leaf}
use Rattle.yschema_plan.specs.NodesView.{node_view}
use Rattle.yschema_resolve.proofs.tuples.are_key_leafs.Given as goal

abbrev pub invariant-loop-child : goal.invariant-loop-child
invariant-loop-child l = list_all (λ child. option_map_or (is_key_leaf (node_view l.list)) child false) (map (option_map node_view) (drop l.child-index l.children))
    ≡ list_all (λ child. option_map_or (is_key_leaf (node_view l.list)) child false) (map (option_map node_view) l.children)
