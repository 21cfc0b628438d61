use Rattle.std.proofs.Common.{◌∙◌, arith}
use Rattle.ylive.specs.View.{view}
use Rattle.yapp_difference.specs.Turning.{turn_views}
use Rattle.yapp_session.proofs.TurnLemmas.{edit_ran, edit_turned}
use Rattle.yapp_session.proofs.turning.add_turns.Goals as goal

pub loop-edit-preserved : goal.loop-edit-preserved
loop-edit-preserved c =
    let first = view c.args.live.now in
    let before = view c.loop-edit.live in
    let now = view c.run_edit.new.live in (
      edit_turned first c.args.edits.now c.loop-edit.edit-index c.edit-item.result (omega arith) c.edit-item.is before now (turn_views c.loop-edit.turns.items)
          (turn_views c.add_turn.new.turns.items) _ c.loop-edit.invariant.2 c.in_ok-run_edit.ensures.ok c.in_ok-add_turn.ensures c.loop-edit.invariant.0,
      edit_ran first c.args.edits.now c.loop-edit.edit-index c.edit-item.result (omega arith) c.edit-item.is before now _ c.in_ok-run_edit.ensures.ok
          c.loop-edit.invariant.1,
      c.run_edit.ensures.schema ∙ c.loop-edit.invariant.2,
    )
