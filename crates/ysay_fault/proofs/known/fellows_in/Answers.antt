use Rattle.std.proofs.Common.{List, Option, Vec, sym, ap, ◌∙◌}
use Rattle.std.proofs.lemmas.Result.{IfOk-weaker}
use Rattle.std.specs.Cmp.Lexicographic.{slice_cmp}
use Rattle.std.specs.Global.{Global}
use Rattle.std.specs.Ordering.{eq_by_cmp}
use Rattle.yspec.specs.types.Types.{Val}
use Rattle.yspec.specs.types.Order.{value_cmp}
use Rattle.yschema_model.specs.View as schema_view
use Rattle.yinst_tree.specs.View as document_view
use Rattle.ysay_fault.specs.FoundFellows as spec
use Rattle.ysay_fault.specs.Others.{others_from}
use Rattle.ysay_fault.proofs.FoundLemmas.{tuples_seen}
use Rattle.ysay_fault.proofs.known.fellows_in.Goals as goal

pub returns-in_ok-tuples_in-in-Some : goal.returns-in_ok-tuples_in-in-Some
returns-in_ok-tuples_in-in-Some c =
    let s = schema_view.view c.args.schema.now in
    let row = document_view.row_view c.args.row.now in
    let tuples = c.in_ok-tuples_in-in-Some.field-0.items in
    IfOk-weaker c.others_of.result _ _ (λ fellows so. so
    ∙ (ap (λ (ks : List (Option (Vec Val Global))). others_from (eq_by_cmp (λ (x y : Vec Val Global). slice_cmp value_cmp x.items y.items)) ks 1 ks) c.deref.ensures.value
    ∙ (tuples_seen s c.in-Some.number c.args.id.0 row tuples c.in_ok-tuples_in-in-Some.ensures
    ∙ ap (λ by. spec.fellows_in s by c.args.id.0 row) (sym c.in-Some.is)))) c.others_of.ensures
