use Rattle.std.proofs.Common.{sym, ap, ◌∙◌}
use Rattle.std.specs.Prelude.{option_and_then}
use Rattle.yspec.specs.document.Path.{module_after}
use Rattle.yschema_model.specs.View.{view}
use Rattle.ysay_place.proofs.PlaceLemmas.{last_seen}
use Rattle.ysay_place.proofs.path.module_at.Goals as goal

pub returns-in-Some : goal.returns-in-Some
returns-in-Some c = c.module_after.ensures ∙ sym (ap (option_and_then (module_after (view c.args.schema.now)))
    (last_seen c.args.steps.now c.in-Some.field-0-1.now c.in-Some.step.now c.in-Some.ensures.cases.0))
