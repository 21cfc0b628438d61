use Rattle.std.proofs.Common.{◌≡◌, ◌++◌, drop, map, Bool, false}
use Rattle.std.specs.List.{filter_map}
use Rattle.std.specs.Option.{option_map_or}
use Rattle.ybase_graph.specs.declared.circles.Edge.{Edge}
use Rattle.ylink_names.proofs.circular.flags_by_number.Given as goal

abbrev pub invariant-loop-edge : goal.invariant-loop-edge
invariant-loop-edge l = (test : Edge → Bool) → l.flags ≡ map test (filter_map (λ e. e) l.edges)
    → (l.made.items ++ map (λ e. option_map_or test e false) (drop l.edge-index l.edges) ≡ map (λ e. option_map_or test e false) l.edges)
    × (l.left ≡ map test (filter_map (λ e. e) (drop l.edge-index l.edges)))
