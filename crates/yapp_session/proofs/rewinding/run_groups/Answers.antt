use Rattle.std.proofs.Common.{ap, ◌∙◌, arith}
use Rattle.ylive.specs.View.{view}
use Rattle.ylive.specs.Answers.{after_edits}
use Rattle.yapp_session.specs.View.{edits_view}
use Rattle.yapp_session.proofs.RewindLemmas.{one_run}
use Rattle.yapp_session.proofs.rewinding.run_groups.Goals as goal

pub loop-group-preserved : goal.loop-group-preserved
loop-group-preserved c = (
  one_run (view c.args.live.now) c.args.groups.now c.loop-group.group-index c.group-item.result (omega arith) c.group-item.is (view c.loop-group.live)
      (view c.run_group.new.live) _ c.loop-group.invariant.1
      (c.in_ok-run_group.ensures.ok ∙ ap (λ es. after_edits (edits_view es) (view c.loop-group.live)) c.deref.ensures.value) c.loop-group.invariant.0,
  c.run_group.ensures.schema ∙ c.loop-group.invariant.1,
)
