use Rattle.std.proofs.Common.{◌≡◌, ◌++◌, drop}
use Rattle.std.specs.Prelude.{reverse}
use Rattle.yspec_session.specs.Remembering.{turns_back}
use Rattle.ylive.specs.View.{view}
use Rattle.ylive.specs.Answers.{after_edits}
use Rattle.yapp_difference.specs.Turning.{turn_views}
use Rattle.yapp_session.specs.View.{edits_view}
use Rattle.yapp_session.proofs.turning.add_turns.Given as goal

abbrev pub invariant-loop-edit : goal.invariant-loop-edit
invariant-loop-edit l = let first = view l.initial.live in let now = view l.live in
    (turn_views l.turns.items ++ reverse (turns_back first.schema now.tree (edits_view (drop l.edit-index l.edits)))
    ≡ turn_views l.initial.turns.items ++ reverse (turns_back first.schema first.tree (edits_view l.edits)))
    × (after_edits (edits_view (drop l.edit-index l.edits)) now ≡ after_edits (edits_view l.edits) first)
    × (now.schema ≡ first.schema)
