use Rattle.serde_json.specs.View as json
use Rattle.yschema_model.specs.View as schema_view
use Rattle.yinst.specs.Rows.{branch_view}
use Rattle.yspec.proofs.DocumentProofs.JsonLemmas.{json_found}
use Rattle.yinst_path.proofs.AnswerLemmas.{answers_same}
use Rattle.yinst.proofs.EditLemmas.{branch_of_value}
use Rattle.yinst.proofs.branch.part.Goals as goal

pub returns-in-Ok : goal.returns-in-Ok
returns-in-Ok c =
    let bytes = c.as_bytes.result.now in
    answers_same branch_view c.branch_at.result _ _
    (branch_of_value (schema_view.view c.args.schema.now) c.args.id.0 bytes c.args.text.now (json.view c.in-Ok.value) c.as_bytes.ensures.value
    (json_found bytes (json.view c.in-Ok.value) c.in-Ok.ensures.ok.0 c.in-Ok.ensures.ok.1)) c.branch_at.ensures
