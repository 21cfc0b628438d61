use Rattle.std.proofs.Common.{◌∙◌}
use Rattle.yschema_model.specs.View.{view}
use Rattle.yinst_path.proofs.MovableLemmas.{ends_last}
use Rattle.yinst_path.proofs.binding.ends_in_many.Goals as goal

pub returns-in-Some : goal.returns-in-Some
returns-in-Some c = c.is_many.ensures ∙ ends_last (view c.args.schema.now) c.args.steps.now c.in-Some.step.now c.in-Some.ensures.value
