use Rattle.std.proofs.Common.{◌≡◌, ◌++◌, drop, map}
use Rattle.std.specs.Prelude.{option_map}
use Rattle.ybase_graph.specs.Edges.{edge_view}
use Rattle.ylink_names.specs.EdgeView.{edges_from}
use Rattle.ylink_names.proofs.references.edges_by_number.Given as goal

abbrev pub invariant-loop-number : goal.invariant-loop-number
invariant-loop-number l =
    map (option_map edge_view) l.made.items ++ edges_from l.holders l.number (drop l.number l.meanings) ≡ edges_from l.holders 0 l.meanings
