use Rattle.std.proofs.Common.{◌≡◌, IfOk, string_bytes, ap, ◌∙◌, subst}
use Rattle.yspec.specs.text.Text.{Text}
use Rattle.yschema_model.specs.View as schema_view
use Rattle.yinst_tree.specs.View as document_view
use Rattle.ysay_fault.specs.Sentences.{hint_at}
use Rattle.ysay_fault.proofs.SentenceLemmas.{isnt_taken}
use Rattle.ysay_fault.proofs.sentences.not_taken.Goals as goal

pub returns : goal.returns
returns c =
    let schema = schema_view.view c.args.schema.now in
    let step = document_view.step_view c.args.step.now in
    subst (λ (t : Text). IfOk c.concat.result (λ text. string_bytes text ≡ t))
    (isnt_taken _ _ _ _ _ _ _ _ (c.as_str.ensures.value ∙ c.in_ok-value.ensures) c.type_name.ensures (c.as_str-2.ensures.value ∙ c.in_ok-taken.ensures)
    (c.as_str-3.ensures.value ∙ (c.in_ok-hint.ensures ∙ ap (hint_at schema step.schema_number) c.raw_to.ensures)))
    c.concat.ensures.ok
