use Rattle.std.proofs.Common.{◌≡◌, drop}
use Rattle.yspec.specs.edit.Editing.{has_zero}
use Rattle.yinst_path.specs.EditView.{steps_view}
use Rattle.yinst_path.proofs.binding.has_zero.Given as goal

abbrev pub invariant-loop-step : goal.invariant-loop-step
invariant-loop-step l = has_zero (steps_view (drop l.step-index l.steps)) ≡ has_zero (steps_view l.steps)
