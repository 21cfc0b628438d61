use Rattle.std.proofs.Common.{ap, subst, ◌∙◌}
use Rattle.yspec_opening.specs.Opening.{opened_with}
use Rattle.yapp_words.specs.Command.{opening_view}
use Rattle.yapp_report.specs.Failing.{LeadsTo}
use Rattle.yapp.proofs.ContentsLemmas.{names_in, texts_in}
use Rattle.yapp.proofs.SessionLemmas.{goes_on, opened_by_none, opened_by_texts}
use Rattle.yapp.proofs.opening.open.Goals as goal

pub returns-in-Ok-read_files-clause-opens : goal.returns-in-Ok-read_files-clause-opens
returns-in-Ok-read_files-clause-opens g c =
    let o = opening_view c.args.opening.now in
    opened_by_texts _ _ o _ (texts_in c.in-Ok-read_files.contents.items) c.open_contents.result
    (ap names_in c.deref.ensures.value ∙ c.in-Ok.ensures) c.in-Ok-read_files.ensures
    (λ next. subst (λ texts. LeadsTo (opened_with o texts next) (goes_on next) c.open_contents.result)
    (ap texts_in c.deref-in-Ok-read_files.ensures.value) (c.open_contents.ensures.leads next))

pub returns-in-Ok-clause-opens : goal.returns-in-Ok-clause-opens
returns-in-Ok-clause-opens g c = opened_by_none _ _ (opening_view c.args.opening.now) _ c.in-Err-read_files.failure
    (ap names_in c.deref.ensures.value ∙ c.in-Ok.ensures) c.in-Err-read_files.ensures
