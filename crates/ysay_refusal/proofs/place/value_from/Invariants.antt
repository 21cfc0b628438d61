use Rattle.std.proofs.Common.{◌≡◌, drop}
use Rattle.serde_json.specs.View as json
use Rattle.yschema_model.specs.View.{view}
use Rattle.yinst_tree.specs.View.{place_view}
use Rattle.ysay_refusal.specs.Place as spec
use Rattle.ysay_refusal.proofs.place.value_from.Given as goal

-- where the steps that are left lead from what is found so far
abbrev pub invariant-loop-step : goal.invariant-loop-step
invariant-loop-step l = spec.value_from (view l.schema) l.«module» (place_view (drop l.step-index l.steps)) (json.view l.found)
    ≡ spec.value_from (view l.schema) l.fn.parent_module (place_view l.steps) (json.view l.value)
