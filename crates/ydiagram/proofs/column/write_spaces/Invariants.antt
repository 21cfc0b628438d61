use Rattle.ybase_output.specs.Writing.{side}
use Rattle.ybase_output.proofs.WritingLemmas.{Left}
use Rattle.yspec.specs.schema.Diagram.{spaces}
use Rattle.ydiagram.proofs.column.write_spaces.Given as goal

abbrev pub invariant-loop-left : goal.invariant-loop-left
invariant-loop-left g l = Left (side g.W.Sink.taken g.W.Sink.failures l.fn.sink) (side g.W.Sink.taken g.W.Sink.failures l.sink)
    (spaces l.count) (spaces l.left)

abbrev pub decreases-loop-left : goal.decreases-loop-left
decreases-loop-left g l = l.left
