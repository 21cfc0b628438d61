use Rattle.std.proofs.Common.{drop}
use Rattle.std.specs.List.{flat_map}
use Rattle.yspec.specs.document.Faults.{line_of}
use Rattle.yschema_model.specs.View as schema
use Rattle.ycheck.specs.View.{views}
use Rattle.ybase_output.specs.Writing.{side}
use Rattle.ybase_output.proofs.WritingLemmas.{Left}
use Rattle.yapp_report.proofs.report.write_lines.Given as goal

abbrev pub invariant-loop-fault : goal.invariant-loop-fault
invariant-loop-fault g l = Left (side g.S.Sink.taken g.S.Sink.failures l.fn.sink) (side g.S.Sink.taken g.S.Sink.failures l.sink)
    (flat_map (line_of (schema.view l.schema)) (views l.faults))
    (flat_map (line_of (schema.view l.schema)) (views (drop l.fault-index l.faults)))
