use Rattle.std.proofs.Common.{map}
use Rattle.ybase_graph.specs.Derivations.{AreStraight}
use Rattle.ybase_graph.specs.Edges.{edge_view}
use Rattle.ylink_types.specs.DerivedView.{Ascend, AreSets}
use Rattle.ylink_types.proofs.derived.sets_of.Given as goal

abbrev pub invariant-loop-base : goal.invariant-loop-base
invariant-loop-base l = AreStraight (map edge_view l.edges) → Ascend 0 l.numbers → AreSets l.sets.items (map edge_view l.edges) l.numbers
