use Rattle.std.proofs.Common.{arith}
use Rattle.yinst_path.specs.EditView.{step_view}
use Rattle.yapp_session.proofs.ListLemmas.{one_copied}
use Rattle.yapp_session.proofs.copying.copy_steps.Goals as goal

pub loop-step-preserved : goal.loop-step-preserved
loop-step-preserved c =
    one_copied step_view step_view c.loop-step.copies.items c.push.new.self.items c.in_ok-copy_step.field-0 c.args.steps.now c.loop-step.step-index c.step-item.result
    (omega arith) c.step-item.is c.in_ok-push.ensures.items c.in_ok-copy_step.ensures c.loop-step.invariant
