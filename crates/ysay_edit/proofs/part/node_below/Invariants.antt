use Rattle.std.proofs.Common.{◌≡◌, None, drop}
use Rattle.yschema_model.specs.Layout.{number_of}
use Rattle.yschema_model.specs.View.{view}
use Rattle.yinst_path.specs.EditView.{steps_view}
use Rattle.ysay_edit.specs.Part as spec
use Rattle.ysay_edit.proofs.part.node_below.Given as goal

-- where the steps that are left lead from the node to which those so far lead
abbrev pub invariant-loop-step : goal.invariant-loop-step
invariant-loop-step l = spec.number_below (view l.schema) (number_of l.parent) (steps_view (drop l.step-index l.steps))
    ≡ spec.number_below (view l.schema) None (steps_view l.steps)
