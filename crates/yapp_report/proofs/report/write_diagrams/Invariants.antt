use Rattle.std.proofs.Common.{◌-◌, length}
use Rattle.yspec_run.specs.Output.{all_diagrams, diagrams_from}
use Rattle.yschema_model.specs.View as schema
use Rattle.ybase_output.specs.Writing.{side}
use Rattle.ybase_output.proofs.WritingLemmas.{Left}
use Rattle.yapp_report.proofs.report.write_diagrams.Given as goal

abbrev pub invariant-loop-module : goal.invariant-loop-module
invariant-loop-module g l = let s = schema.view l.schema in
    Left (side g.S.Sink.taken g.S.Sink.failures l.fn.sink) (side g.S.Sink.taken g.S.Sink.failures l.sink)
    (all_diagrams s) (diagrams_from s l.module (length s.modules - l.module))
