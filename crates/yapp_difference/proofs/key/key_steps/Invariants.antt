use Rattle.std.proofs.Common.{◌≡◌, ◌++◌, drop}
use Rattle.yinst_tree.specs.View.{place_view}
use Rattle.yapp_difference.specs.KeyView.{steps_view}
use Rattle.yapp_difference.proofs.key.key_steps.Given as goal

abbrev pub invariant-loop-step : goal.invariant-loop-step
invariant-loop-step l = steps_view l.copy.items ++ place_view (drop l.step-index l.steps) ≡ place_view l.steps
