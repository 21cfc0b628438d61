use Rattle.std.proofs.Common.{◌≡◌, [], None, length, string_bytes}
use Rattle.yschema_model.specs.Layout.{number_of}
use Rattle.yschema_model.specs.View.{view}
use Rattle.yinst_path.specs.EditView.{steps_view}
use Rattle.yinst_tree.specs.View.{row_view}
use Rattle.ysay_edit.specs.Now as spec
use Rattle.ysay_edit.proofs.now.node_reached.Given as goal

-- where the steps that are left lead from the node to which those so far lead
abbrev pub invariant-loop-step : goal.invariant-loop-step
invariant-loop-step l = spec.reached (view l.schema) (number_of l.parent) (string_bytes l.above) (row_view l.row) (steps_view l.rest)
    ≡ spec.reached (view l.schema) None [] (row_view l.fn.top) (steps_view l.fn.steps)

abbrev pub decreases-loop-step : goal.decreases-loop-step
decreases-loop-step l = length l.rest
