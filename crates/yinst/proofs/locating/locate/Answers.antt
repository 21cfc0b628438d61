use Rattle.std.proofs.Common.{sym, ap, ◌∙◌}
use Rattle.yspec.specs.edit.Editing.{target}
use Rattle.yschema_model.specs.View as schema_view
use Rattle.yinst_tree.specs.View.{row_view}
use Rattle.yinst_path.specs.Binding.{steps_view}
use Rattle.yinst.specs.Locating.{spots_view, located_view, target_on}
use Rattle.yinst_path.proofs.AnswerLemmas.{answers_same}
use Rattle.yinst.proofs.LocatingLemmas.{target_at}
use Rattle.yinst.proofs.locating.locate.Goals as goal

pub returns : goal.returns
returns c =
    let s = schema_view.view c.args.schema.now in
    let row = row_view c.args.row.now in
    let steps = steps_view s c.args.steps.now in
    answers_same (located_view s) c.locate_on.result (target s row steps) (target_on s (spots_view c.new.result.items) row steps)
    (sym (ap (λ xs. target_on s (spots_view xs) row steps) c.new.ensures.items ∙ target_at s row steps)) c.locate_on.ensures
