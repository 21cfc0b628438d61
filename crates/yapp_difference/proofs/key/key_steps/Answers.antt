use Rattle.yinst_tree.specs.View as document_view
use Rattle.yapp_difference.specs.KeyView.{step_view}
use Rattle.yapp_difference.proofs.ListLemmas.{one_copied}
use Rattle.yapp_difference.proofs.key.key_steps.Goals as goal

pub loop-step-preserved : goal.loop-step-preserved
loop-step-preserved c =
    one_copied step_view document_view.step_view c.loop-step.copy.items c.push.new.self.items c.key_step-made.result c.args.steps.now c.loop-step.step-index _
    c.loop-step-test.true c.in_ok-push.ensures.items c.key_step-made.ensures c.loop-step.invariant
