use Rattle.std.proofs.Common.{sym, ap, ◌∙◌}
use Rattle.yspec_session.specs.Session.{steps_meant}
use Rattle.yschema_model.specs.View as schema_view
use Rattle.yinst_tree.specs.View.{row_view}
use Rattle.yinst_path.specs.Binding.{steps_view}
use Rattle.yinst.specs.Locating.{spots_view}
use Rattle.yinst_path.proofs.AnswerLemmas.{answers_same}
use Rattle.yapp_asking.specs.Asking.{place_view, steps_on}
use Rattle.yapp_asking.proofs.PlaceLemmas.{steps_at}
use Rattle.yapp_asking.proofs.place.steps_meant.Goals as goal

pub returns : goal.returns
returns c =
    let s = schema_view.view c.args.schema.now in
    let row = row_view c.args.row.now in
    let steps = steps_view s c.args.steps.now in
    answers_same place_view c.steps_on.result (steps_meant s row steps) (steps_on s (spots_view c.new.result.items) row steps)
    (sym (ap (λ xs. steps_on s (spots_view xs) row steps) c.new.ensures.items ∙ steps_at s row steps)) c.steps_on.ensures
