use Rattle.ybase_graph.proofs.MarkLemmas.{Marked}
use Rattle.ybase_graph.proofs.derivations.Derivations.from.Given as goal

abbrev pub invariant-loop-node : goal.invariant-loop-node
invariant-loop-node l = Marked l.self l.base l.marks.items l.node-index
