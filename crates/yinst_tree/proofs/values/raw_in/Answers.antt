use Rattle.std.proofs.Common.{sym, ap, ◌∙◌}
use Rattle.std.proofs.lemmas.Result.{IfOk-weaker}
use Rattle.serde_json.specs.View.{view}
use Rattle.yschema_model.specs.Layout.{form_view}
use Rattle.yspec.specs.document.Reading.{raw_by}
use Rattle.yinst_tree.proofs.ValueLemmas.{object_held}
use Rattle.yinst_tree.proofs.values.raw_in.Goals as goal

pub returns-then-is_object : goal.returns-then-is_object
returns-then-is_object c =
    IfOk-weaker c.raw_of_whole-then-is_object.result _ _ (λ raw so. so ∙ (object_held (view c.args.value) (sym c.is_object.ensures ∙ c.if-is_object.true)
    ∙ ap (λ form. raw_by (form_view form) (view c.args.value)) (sym c.in-AnyObject.is))) c.raw_of_whole-then-is_object.ensures
