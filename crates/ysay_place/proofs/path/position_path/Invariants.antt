use Rattle.std.proofs.Common.{◌≡◌, ◌++◌, drop, None, string_bytes}
use Rattle.yspec.specs.document.Path.{path_from}
use Rattle.yschema_model.specs.View.{view}
use Rattle.yinst_tree.specs.View.{place_view}
use Rattle.ysay_place.proofs.path.position_path.Given as goal

-- the text so far, and that of the steps that are left
abbrev pub invariant-loop-step : goal.invariant-loop-step
invariant-loop-step l = string_bytes l.text ++ path_from (view l.schema) l.parent_module (place_view (drop l.step-index l.steps))
    ≡ path_from (view l.schema) None (place_view l.steps)
