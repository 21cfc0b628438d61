use Rattle.std.proofs.Common.{◌≡◌, None, length}
use Rattle.yschema_model.specs.Layout.{number_of}
use Rattle.yschema_model.specs.View.{view}
use Rattle.yinst_path.specs.EditView.{steps_view}
use Rattle.ysay_edit.specs.Predicate as spec
use Rattle.ysay_edit.proofs.predicate.of_predicates.Given as goal

-- what is said of the steps that are left, from the node to which those so far lead
abbrev pub invariant-loop-step : goal.invariant-loop-step
invariant-loop-step l = spec.of_predicates (view l.schema) l.is_create (number_of l.parent) (steps_view l.rest)
    ≡ spec.of_predicates (view l.schema) l.is_create None (steps_view l.fn.steps)

abbrev pub decreases-loop-step : goal.decreases-loop-step
decreases-loop-step l = length l.rest
