use Rattle.std.proofs.Common.{◌-◌, ap, ◌∙◌}
use Rattle.std.specs.Prelude.{option_and_then, slice_get}
use Rattle.yschema_model.specs.View as schema_view
use Rattle.yinst_tree.specs.View as document_view
use Rattle.ysay_fault.specs.FoundFellows as spec
use Rattle.ysay_place.specs.Places.{row_at}
use Rattle.ysay_fault.proofs.FoundLemmas.{found_fellow}
use Rattle.ysay_fault.proofs.known.KnownRows.fellow_of_instance.Goals as goal

pub returns-in-Some-clause-fellow : goal.returns-in-Some-clause-fellow
returns-in-Some-clause-fellow c right =
    let s = schema_view.view c.args.schema.now in
    let t = document_view.tree_view c.args.tree.now in
    c.fellow_in.ensures ∙ (ap (λ fs. option_and_then (λ fellow. fellow) (slice_get fs (c.args.position - 1))) (c.in-Some.ensures s t right)
    ∙ found_fellow s c.args.by c.args.step.now.id.0 c.args.position (row_at t (document_view.place_view c.args.above.now)) c.requires)

pub returns-clause-fellow : goal.returns-clause-fellow
returns-clause-fellow c right =
    let s = schema_view.view c.args.schema.now in
    let t = document_view.tree_view c.args.tree.now in
    c.fellow_in-fellow.ensures ∙ (ap (λ fs. option_and_then (λ fellow. fellow) (slice_get fs (c.args.position - 1)))
    (c.deref.ensures.value ∙ (c.in_ok-fellows.ensures ∙ ap (spec.fellows_in s c.args.by c.args.step.now.id.0) c.row_at.ensures))
    ∙ found_fellow s c.args.by c.args.step.now.id.0 c.args.position (row_at t (document_view.place_view c.args.above.now)) c.requires)
