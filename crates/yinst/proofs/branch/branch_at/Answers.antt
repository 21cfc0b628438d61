use Rattle.serde_json.specs.View as json
use Rattle.yschema_model.specs.View as schema_view
use Rattle.yinst_tree.specs.View.{view}
use Rattle.yinst_tree.specs.Told.{code_number}
use Rattle.yinst.proofs.EditLemmas.{branch_denoted, branch_refused}
use Rattle.yinst.proofs.branch.branch_at.Goals as goal

pub returns-in-Ok-Some : goal.returns-in-Ok-Some
returns-in-Ok-Some c =
    branch_denoted (schema_view.view c.args.schema.now) c.args.id.0 (json.view c.args.value) (view c.in-Ok-Some.stored)
    c.in-Ok-Some.ensures.refused (rw c.in-Ok-Some.field-0-is at c.in-Ok-Some.ensures.node)

pub returns-in-Err-Refused : goal.returns-in-Err-Refused
returns-in-Err-Refused c =
    branch_refused (schema_view.view c.args.schema.now) c.args.id.0 (json.view c.args.value) (record { code = code_number c.in-Err-Refused.code; place = _ })
    (rw c.in-Err-Refused.field-0-is at c.in-Err-Refused.ensures.refused)
