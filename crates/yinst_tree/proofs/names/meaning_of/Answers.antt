use Rattle.std.proofs.Common.{ap, sym, ◌∙◌, cond}
use Rattle.yspec.specs.document.Reading.{other_form, unknown}
use Rattle.yschema_model.specs.Layout.{number_of}
use Rattle.yschema_model.specs.View.{view}
use Rattle.yspec.proofs.DocumentProofs.MeaningLemmas.{means_child, means_none}
use Rattle.yschema_model.proofs.CallerLemmas.{numbered}
use Rattle.yinst_tree.proofs.names.meaning_of.Goals as goal

pub returns-in-Some : goal.returns-in-Some
returns-in-Some c =
    means_child (view c.args.schema.now) (number_of c.args.parent) c.args.name.now c.in-Some.id.0 (numbered c.args.schema.now) (sym (ap number_of c.in-Some.is) ∙ c.child_written.ensures)

pub returns-in-None : goal.returns-in-None
returns-in-None c =
    means_none (view c.args.schema.now) (number_of c.args.parent) c.args.name.now c.in_ok-is_other_form.field-0
    (sym (ap number_of c.in-None.is) ∙ c.child_written.ensures) c.in_ok-is_other_form.ensures
    ∙ ap (λ b. cond b other_form unknown) c.if-branch.true

pub returns-in-None-2 : goal.returns-in-None-2
returns-in-None-2 c =
    means_none (view c.args.schema.now) (number_of c.args.parent) c.args.name.now c.in_ok-is_other_form.field-0
    (sym (ap number_of c.in-None.is) ∙ c.child_written.ensures) c.in_ok-is_other_form.ensures
    ∙ ap (λ b. cond b other_form unknown) c.if-branch.false
