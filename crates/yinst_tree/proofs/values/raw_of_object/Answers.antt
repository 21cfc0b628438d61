use Rattle.std.proofs.Common.{sym, ap, ◌∙◌}
use Rattle.std.proofs.lemmas.Result.{IfOk-weaker}
use Rattle.serde_json.specs.View.{view}
use Rattle.yschema_model.specs.Layout.{form_view}
use Rattle.yspec.specs.document.Reading.{raw_by}
use Rattle.yinst_tree.proofs.ValueLemmas.{object_of_type, object_held}
use Rattle.yinst_tree.proofs.values.raw_of_object.Goals as goal

pub returns-in-ByType : goal.returns-in-ByType
returns-in-ByType c = λ is.
    object_of_type (view c.args.value.now) is ∙ ap (λ form. raw_by (form_view form) (view c.args.value.now)) (sym c.in-ByType.is)

pub returns-in-AnyValue : goal.returns-in-AnyValue
returns-in-AnyValue c =
    IfOk-weaker c.raw_of_whole.result _ _ (λ raw so is.
    so ∙ ap (λ form. raw_by (form_view form) (view c.args.value.now)) (sym c.in-AnyValue.is)) c.raw_of_whole.ensures

pub returns-in-AnyObject : goal.returns-in-AnyObject
returns-in-AnyObject c =
    IfOk-weaker c.raw_of_whole-in-AnyObject.result _ _ (λ raw so is.
    so ∙ (object_held (view c.args.value.now) is ∙ ap (λ form. raw_by (form_view form) (view c.args.value.now)) (sym c.in-AnyObject.is))) c.raw_of_whole-in-AnyObject.ensures
