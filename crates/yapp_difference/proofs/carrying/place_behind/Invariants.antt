use Rattle.std.proofs.Common.{◌≡◌, drop}
use Rattle.yspec_session.specs.Carrying.{place_behind}
use Rattle.yapp_difference.specs.KeyView.{steps_view}
use Rattle.yapp_difference.specs.Turning.{turn_views}
use Rattle.yapp_difference.proofs.carrying.place_behind.Given as goal

-- behind the turns that are left
abbrev pub invariant-loop-turn : goal.invariant-loop-turn
invariant-loop-turn l = place_behind (turn_views (drop l.turn-index l.turns)) (steps_view l.steps.items)
    ≡ place_behind (turn_views l.turns) (steps_view l.fn.steps.items)
