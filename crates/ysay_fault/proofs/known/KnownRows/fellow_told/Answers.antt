use Rattle.std.proofs.Common.{refl, sym, ◌∙◌}
use Rattle.std.proofs.lemmas.Result.{IfOk-weaker}
use Rattle.yschema_model.specs.View as schema_view
use Rattle.yinst_tree.specs.View as document_view
use Rattle.ycheck.specs.View as fault_view
use Rattle.ysay_place.specs.Places.{row_at}
use Rattle.ysay_fault.proofs.FoundLemmas.{told_by}
use Rattle.ysay_fault.proofs.known.KnownRows.fellow_told.Goals as goal

pub returns-in-Some-split_last-clause-fellow : goal.returns-in-Some-split_last-clause-fellow
returns-in-Some-split_last-clause-fellow c right =
    let t = document_view.tree_view c.args.tree.now in
    let f = fault_view.view c.args.fault.now in
    IfOk-weaker c.fellow_to_step.result _ _ (λ fellow so. so
    ∙ told_by (schema_view.view c.args.schema.now) t (row_at t (document_view.place_view c.in-Some-split_last.above.now)) f.info f.code
    c.args.fault.now.steps.items c.in-Some-split_last.above.now c.in-Some-split_last.step.now c.in-Some.by
    (sym c.deref.ensures.value ∙ c.in-Some-split_last.ensures.cases.0) refl (sym c.fellow_asked.ensures ∙ c.in-Some.is)) (c.fellow_to_step.ensures.fellow right)
