use Rattle.std.proofs.Common.{drop, map, string_bytes}
use Rattle.yschema_model.specs.View as schema
use Rattle.ycheck.specs.View.{views}
use Rattle.ybase_output.specs.Writing.{side}
use Rattle.ybase_output.proofs.WritingLemmas.{Left}
use Rattle.yapp_report.specs.Explained.{explained_lines}
use Rattle.yapp_report.proofs.report.write_explained_lines.Given as goal

abbrev pub invariant-loop-fault : goal.invariant-loop-fault
invariant-loop-fault g l = Left (side g.S.Sink.taken g.S.Sink.failures l.fn.sink) (side g.S.Sink.taken g.S.Sink.failures l.sink)
    (explained_lines (schema.view l.schema) (views l.faults) (map string_bytes l.explanations))
    (explained_lines (schema.view l.schema) (views (drop l.fault-index l.faults)) (map string_bytes l.rest))
