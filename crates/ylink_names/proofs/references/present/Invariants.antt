use Rattle.std.proofs.Common.{◌≡◌, ◌++◌, drop}
use Rattle.std.specs.List.{filter_map}
use Rattle.ylink_names.proofs.references.present.Given as goal

abbrev pub invariant-loop-edge : goal.invariant-loop-edge
invariant-loop-edge l = l.made.items ++ filter_map (λ e. e) (drop l.edge-index l.edges) ≡ filter_map (λ e. e) l.edges
