use Rattle.std.proofs.Common.{ap}
use Rattle.std.proofs.lemmas.List.{at_drop_all, at_drop_more}
use Rattle.ybase_output.proofs.WritingLemmas.{left_all, left_same, left_after, left_none, left_failed, wrote_same, broke_same}
use Rattle.yspec_run.specs.Part.{spelled, spelled_part}
use Rattle.std.proofs.Common.{option_map, string_bytes}
use Rattle.yspec_run.specs.Lines.{jumping, script_spot}
use Rattle.yapp_script.specs.Asked.{refused_part}
use Rattle.yapp_report.specs.EditedView.{scripted_parts}
use Rattle.yapp_report.proofs.report.write_refused.Goals as goal

pub loop-line-init : goal.loop-line-init
loop-line-init g c = left_all _ _

pub loop-line-preserved : goal.loop-line-preserved
loop-line-preserved g c = left_after _ _ _ _ _ _ (left_same _ _ _ _ _
    (at_drop_more (λ ls. spelled c.args.with_reasons (scripted_parts (option_map string_bytes c.args.script.now) ls)) c.args.lines.now c.loop-line.line-index c.line-item.result c.loop-line-test.true)
    c.loop-line.invariant)
    (wrote_same _ _ _ _ (ap (λ l. spelled_part c.args.with_reasons (jumping (script_spot (option_map string_bytes c.args.script.now)) (refused_part l))) c.line-item.is) c.in_ok-write_refused_line.ensures)

pub returns : goal.returns
returns g c = left_none _ _ _ (left_same _ _ _ _ _
    (at_drop_all (λ ls. spelled c.args.with_reasons (scripted_parts (option_map string_bytes c.args.script.now) ls)) c.args.lines.now c.loop-line.line-index c.loop-line-test.false)
    c.loop-line.invariant)

pub returns-in_err-write_refused_line : goal.returns-in_err-write_refused_line
returns-in_err-write_refused_line g c = left_failed _ _ _ _ _ _ c.from_residual.result c.from_residual.ensures.0 (left_same _ _ _ _ _
    (at_drop_more (λ ls. spelled c.args.with_reasons (scripted_parts (option_map string_bytes c.args.script.now) ls)) c.args.lines.now c.loop-line.line-index c.line-item.result c.loop-line-test.true)
    c.loop-line.invariant)
    (broke_same _ _ _ _ (ap (λ l. spelled_part c.args.with_reasons (jumping (script_spot (option_map string_bytes c.args.script.now)) (refused_part l))) c.line-item.is) c.in_err-write_refused_line.ensures)
