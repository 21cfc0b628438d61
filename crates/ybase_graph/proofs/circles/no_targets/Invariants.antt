use Rattle.ybase_graph.specs.Edges.{HaveNoTargets}
use Rattle.ybase_graph.proofs.circles.no_targets.Given as goal

abbrev pub invariant-loop : goal.invariant-loop
invariant-loop l = HaveNoTargets l.counter l.rows.items
