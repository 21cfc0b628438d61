use Rattle.std.proofs.Common.{◌∙◌, ap, subst, sym}
use Rattle.yspec_run.specs.Lines.{said_with}
use Rattle.yapp_words.specs.Command.{view}
use Rattle.yapp.specs.Files.{LeadsBy, found_as}
use Rattle.yapp.proofs.ContentsLemmas.{came_of_reading, came_of_texts, names_in, texts_in}
use Rattle.yapp.proofs.answering.answer.Goals as goal

pub returns-in-Ok-read_files-clause-found : goal.returns-in-Ok-read_files-clause-found
returns-in-Ok-read_files-clause-found g c =
    let request = view c.args.request.now in
    came_of_texts c.args.by_lines _ _ request _ (texts_in c.in-Ok-read_files.contents.items) c.find.result
    (ap names_in c.deref.ensures.value ∙ c.in-Ok.ensures) c.in-Ok-read_files.ensures
    (subst (λ texts. LeadsBy (λ stop. said_with c.args.by_lines stop request texts) found_as c.find.result)
    (ap texts_in c.deref-in-Ok-read_files-2.ensures.value) (c.find.ensures.leads (sym (ap names_in c.deref-in-Ok-read_files.ensures.value ∙ c.in-Ok.ensures))))

pub returns-in-Ok-clause-found : goal.returns-in-Ok-clause-found
returns-in-Ok-clause-found g c = came_of_reading c.args.by_lines _ _ (view c.args.request.now) _ c.in-Err-read_files.failure
    (ap names_in c.deref.ensures.value ∙ c.in-Ok.ensures) c.in-Err-read_files.ensures
