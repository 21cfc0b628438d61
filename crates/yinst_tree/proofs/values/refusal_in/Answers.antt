use Rattle.std.proofs.Common.{sym, ap, ◌∙◌}
use Rattle.serde_json.specs.View.{view}
use Rattle.yschema_model.specs.Layout.{form_view}
use Rattle.yinst_tree.specs.Told.{refusal_by}
use Rattle.yinst_tree.proofs.ValueLemmas.{object_refused, other_refused}
use Rattle.yinst_tree.proofs.values.refusal_in.Goals as goal

pub returns-then-is_object : goal.returns-then-is_object
returns-then-is_object c =
    c.refusal_of_whole-then-is_object.ensures ∙ (object_refused (view c.args.value.now) (sym c.is_object.ensures ∙ c.if-is_object.true)
    ∙ ap (λ form. refusal_by (form_view form) (view c.args.value.now)) (sym c.in-AnyObject.is))

pub returns-else-is_object : goal.returns-else-is_object
returns-else-is_object c =
    other_refused (view c.args.value.now) (sym c.is_object.ensures ∙ c.if-is_object.false)
    ∙ ap (λ form. refusal_by (form_view form) (view c.args.value.now)) (sym c.in-AnyObject.is)
