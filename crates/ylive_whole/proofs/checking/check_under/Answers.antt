use Rattle.std.proofs.Common.{Ok, ap, sym, ◌∙◌}
use Rattle.yspec.specs.edit.Live.{Live, checked_from}
use Rattle.yschema_model.specs.View as schema_view
use Rattle.ylive.specs.View.{edits_view}
use Rattle.ylive_whole.proofs.checking.check_under.Goals as goal

pub returns-in-Ok-check_live-clause-answer : goal.returns-in-Ok-check_live-clause-answer
returns-in-Ok-check_live-clause-answer c =
    let es = edits_view c.args.edits.now in
    ap (checked_from (schema_view.view c.args.schema) es) c.in-Ok.ensures.answer
    ∙ sym (ap (λ (l : Live). checked_from l.schema es (Ok l.tree)) c.in-Ok-from_parts.ensures.opened)
    ∙ sym c.in-Ok-check_live.ensures
