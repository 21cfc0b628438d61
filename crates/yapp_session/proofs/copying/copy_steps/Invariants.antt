use Rattle.std.proofs.Common.{◌≡◌, ◌++◌, drop}
use Rattle.yinst_path.specs.EditView.{steps_view}
use Rattle.yapp_session.proofs.copying.copy_steps.Given as goal

abbrev pub invariant-loop-step : goal.invariant-loop-step
invariant-loop-step l = steps_view l.copies.items ++ steps_view (drop l.step-index l.steps) ≡ steps_view l.steps
