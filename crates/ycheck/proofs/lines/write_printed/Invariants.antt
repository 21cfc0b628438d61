use Rattle.std.proofs.Common.{drop}
use Rattle.yspec.specs.document.Faults.{printed_tag}
use Rattle.ybase_output.specs.Writing.{side}
use Rattle.ybase_output.proofs.WritingLemmas.{Left}
use Rattle.ycheck.proofs.lines.write_printed.Given as goal

abbrev pub invariant-loop-byte : goal.invariant-loop-byte
invariant-loop-byte g l = Left (side g.W.Sink.taken g.W.Sink.failures l.fn.sink) (side g.W.Sink.taken g.W.Sink.failures l.sink)
    (printed_tag l.bytes) (printed_tag (drop l.byte-index l.bytes))
