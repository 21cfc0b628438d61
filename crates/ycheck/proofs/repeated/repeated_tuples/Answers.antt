use Rattle.std.proofs.Common.{◌∙◌, ap, arith}
use Rattle.std.proofs.lemmas.Result.{IfOk-weaker}
use Rattle.std.specs.Cmp.Lexicographic.{slice_cmp}
use Rattle.std.specs.Ordering.{eq_by_cmp}
use Rattle.yspec.specs.types.Order.{value_cmp}
use Rattle.yschema_model.specs.Layout.{tuples_view}
use Rattle.yschema_model.specs.View as schema_view
use Rattle.ycheck.specs.Repeated.{marks}
use Rattle.ycheck.proofs.ValueLemmas.{tuple_marks}
use Rattle.ycheck.proofs.repeated.repeated_tuples.Goals as goal

pub returns : goal.returns
returns c =
    IfOk-weaker c.repeats.result _ _ (λ found so. so
    ∙ (ap (marks (eq_by_cmp (λ x y. slice_cmp value_cmp x.items y.items))) c.deref.ensures.value
    ∙ tuple_marks (schema_view.view c.args.schema.now) (tuples_view c.args.tuples.now) c.args.number c.args.entries.now c.loop-entry.entry-index c.loop-entry.found.items
    (omega arith) c.loop-entry.invariant)) c.repeats.ensures
