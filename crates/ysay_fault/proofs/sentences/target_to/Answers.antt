use Rattle.std.proofs.Common.{ap, ◌∙◌}
use Rattle.std.proofs.lemmas.Result.{IfOk-weaker}
use Rattle.yschema_model.specs.View as schema_view
use Rattle.ysay_fault.specs.Sentences.{target_at}
use Rattle.ysay_fault.proofs.sentences.target_to.Goals as goal

pub returns : goal.returns
returns c =
    IfOk-weaker c.target_at.result _ _ (λ target so. so ∙ ap (target_at (schema_view.view c.args.schema.now) c.args.step.now.id.0) c.raw_to.ensures) c.target_at.ensures
