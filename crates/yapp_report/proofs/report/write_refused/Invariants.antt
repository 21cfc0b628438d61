use Rattle.std.proofs.Common.{drop, option_map, string_bytes}
use Rattle.yspec_run.specs.Part.{spelled}
use Rattle.ybase_output.specs.Writing.{side}
use Rattle.ybase_output.proofs.WritingLemmas.{Left}
use Rattle.yapp_report.specs.EditedView.{scripted_parts}
use Rattle.yapp_report.proofs.report.write_refused.Given as goal

abbrev pub invariant-loop-line : goal.invariant-loop-line
invariant-loop-line g l = Left (side g.S.Sink.taken g.S.Sink.failures l.fn.sink) (side g.S.Sink.taken g.S.Sink.failures l.sink)
    (spelled l.with_reasons (scripted_parts (option_map string_bytes l.script) l.lines))
    (spelled l.with_reasons (scripted_parts (option_map string_bytes l.script) (drop l.line-index l.lines)))
