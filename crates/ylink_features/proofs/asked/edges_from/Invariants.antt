use Rattle.std.proofs.Common.{◌≡◌, ◌++◌, Some, drop, map}
use Rattle.ybase_graph.specs.Edges.{edge_view}
use Rattle.ylink_features.specs.AskedView.{edges_to}
use Rattle.ylink_features.proofs.asked.edges_from.Given as goal

abbrev pub invariant-loop-target : goal.invariant-loop-target
invariant-loop-target l = map edge_view l.made.items ++ edges_to (Some l.source) (drop l.target-index l.targets) ≡ edges_to (Some l.source) l.targets
