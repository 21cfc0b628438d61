use Rattle.std.proofs.Common.{ap, ◌∙◌, ◌++◌, arith}
use Rattle.std.specs.Prelude.{reverse}
use Rattle.yspec_session.specs.Remembering.{turns_back}
use Rattle.ylive.specs.View.{view}
use Rattle.ylive.specs.Answers.{after_edits}
use Rattle.yapp_difference.specs.Turning.{turn_views}
use Rattle.yapp_session.specs.View.{edits_view}
use Rattle.yapp_session.proofs.TurnLemmas.{group_turned}
use Rattle.yapp_session.proofs.turning.add_all_turns.Goals as goal

pub loop-group-preserved : goal.loop-group-preserved
loop-group-preserved c =
    let first = view c.args.live.now in
    let before = view c.loop-group.live in
    let now = view c.add_turns.new.live in
    let so_far = turn_views c.loop-group.turns.items in (
      group_turned first c.args.groups.now c.loop-group.group-index c.group-item.result (omega arith) c.group-item.is before now so_far
          (turn_views c.add_turns.new.turns.items) _ c.loop-group.invariant.1
          (c.in_ok-add_turns.ensures.live ∙ ap (λ es. after_edits (edits_view es) before) c.deref.ensures.value)
          (c.in_ok-add_turns.ensures.turns
          ∙ ap (λ es. so_far ++ reverse (turns_back before.schema before.tree (edits_view es))) c.deref.ensures.value) c.loop-group.invariant.0,
      c.add_turns.ensures.schema ∙ c.loop-group.invariant.1,
    )
