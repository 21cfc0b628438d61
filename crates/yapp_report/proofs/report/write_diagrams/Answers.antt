use Rattle.std.proofs.Common.{length, arith}
use Rattle.yschema_model.specs.View as schema
use Rattle.ybase_output.proofs.WritingLemmas.{left_same, left_after, left_failed}
use Rattle.yapp_report.proofs.DiagramLemmas.{one_left}
use Rattle.yapp_report.proofs.report.write_diagrams.Goals as goal

pub loop-module-preserved : goal.loop-module-preserved
loop-module-preserved g c =
    let s = schema.view c.args.schema.now in
    let test = c.loop-module-test.true in
    let end = c.modules-module-end.ensures in
    left_after _ _ _ _ _ _ (left_same _ _ _ _ _ (one_left s c.loop-module.module (length s.modules) (omega (arith, test, end))) c.loop-module.invariant)
    c.in_ok-write_placed_diagram.ensures

pub returns-in_err-write_placed_diagram : goal.returns-in_err-write_placed_diagram
returns-in_err-write_placed_diagram g c =
    let s = schema.view c.args.schema.now in
    let test = c.loop-module-test.true in
    let end = c.modules-module-end.ensures in
    left_failed _ _ _ _ _ _ c.from_residual.result c.from_residual.ensures.0
    (left_same _ _ _ _ _ (one_left s c.loop-module.module (length s.modules) (omega (arith, test, end))) c.loop-module.invariant)
    c.in_err-write_placed_diagram.ensures
