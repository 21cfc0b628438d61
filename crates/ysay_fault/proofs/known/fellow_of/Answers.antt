use Rattle.std.proofs.Common.{sym, ◌∙◌}
use Rattle.std.proofs.lemmas.Result.{IfOk-weaker}
use Rattle.yschema_model.specs.View as schema_view
use Rattle.yinst_tree.specs.View as document_view
use Rattle.ycheck.specs.View as fault_view
use Rattle.ysay_fault.proofs.FoundLemmas.{told_by}
use Rattle.ysay_fault.proofs.known.fellow_of.Goals as goal

pub returns-in-Some-split_last : goal.returns-in-Some-split_last
returns-in-Some-split_last c =
    let f = fault_view.view c.args.fault.now in
    IfOk-weaker c.fellow_by_that.result _ _ (λ fellow so. so
    ∙ told_by (schema_view.view c.args.schema.now) (document_view.tree_view c.args.tree.now) (document_view.row_view c.row_at.result.now) f.info f.code
    c.args.fault.now.steps.items c.in-Some-split_last.above.now c.in-Some-split_last.step.now c.in-Some.by
    (sym c.deref.ensures.value ∙ c.in-Some-split_last.ensures.cases.0) c.row_at.ensures (sym c.fellow_asked.ensures ∙ c.in-Some.is)) c.fellow_by_that.ensures
