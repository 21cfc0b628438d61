use Rattle.std.proofs.Common.{◌≡◌, drop, [], None}
use Rattle.yschema_model.specs.View.{view}
use Rattle.yschema_model.specs.Layout.{number_of}
use Rattle.yinst_path.specs.EditView as edits
use Rattle.yinst_path.specs.Binding.{bound_on, steps_view}
use Rattle.yinst_path.proofs.binding.steps_below.Given as goal

abbrev pub invariant-loop-step : goal.invariant-loop-step
invariant-loop-step l = bound_on (view l.schema) (steps_view (view l.schema) l.bound.items) (number_of l.parent) (edits.steps_view (drop l.step-index l.steps))
    ≡ bound_on (view l.schema) [] None (edits.steps_view l.steps)
