use Rattle.std.proofs.Common.{ap}
use Rattle.std.specs.List.{flat_map}
use Rattle.std.proofs.lemmas.List.{at_drop_all, at_drop_more}
use Rattle.yspec.specs.document.Faults.{line_of}
use Rattle.yschema_model.specs.View as schema
use Rattle.ycheck.specs.View.{view, views}
use Rattle.ybase_output.proofs.WritingLemmas.{left_all, left_same, left_after, left_none, left_failed, wrote_same, broke_same}
use Rattle.yapp_report.proofs.report.write_lines.Goals as goal

pub loop-fault-init : goal.loop-fault-init
loop-fault-init g c = left_all _ _

pub loop-fault-preserved : goal.loop-fault-preserved
loop-fault-preserved g c = left_after _ _ _ _ _ _ (left_same _ _ _ _ _
    (at_drop_more (λ fs. flat_map (line_of (schema.view c.args.schema.now)) (views fs)) c.args.faults.now c.loop-fault.fault-index c.fault-item.result c.loop-fault-test.true)
    c.loop-fault.invariant)
    (wrote_same _ _ _ _ (ap (λ f. line_of (schema.view c.args.schema.now) (view f)) c.fault-item.is) c.in_ok-write_fault.ensures)

pub returns : goal.returns
returns g c = left_none _ _ _ (left_same _ _ _ _ _
    (at_drop_all (λ fs. flat_map (line_of (schema.view c.args.schema.now)) (views fs)) c.args.faults.now c.loop-fault.fault-index c.loop-fault-test.false)
    c.loop-fault.invariant)

pub returns-in_err-write_fault : goal.returns-in_err-write_fault
returns-in_err-write_fault g c = left_failed _ _ _ _ _ _ c.from_residual.result c.from_residual.ensures.0 (left_same _ _ _ _ _
    (at_drop_more (λ fs. flat_map (line_of (schema.view c.args.schema.now)) (views fs)) c.args.faults.now c.loop-fault.fault-index c.fault-item.result c.loop-fault-test.true)
    c.loop-fault.invariant)
    (broke_same _ _ _ _ (ap (λ f. line_of (schema.view c.args.schema.now) (view f)) c.fault-item.is) c.in_err-write_fault.ensures)
