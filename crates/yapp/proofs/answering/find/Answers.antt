use Rattle.std.proofs.Common.{map, subst, sym}
use Rattle.std.proofs.lemmas.Result.{IfOk-weaker}
use Rattle.yspec_run.specs.Lines.{performed_by}
use Rattle.yspec_run.specs.Unjudged.{noted_for}
use Rattle.yapp_words.specs.Command.{view}
use Rattle.yapp_report.specs.Explained.{IsExplained}
use Rattle.yapp_report.specs.Failing.{LeadsTo}
use Rattle.yapp.specs.Files.{found_as}
use Rattle.yapp.proofs.NotedLemmas.{fails_on}
use Rattle.yapp.proofs.answering.find.Goals as goal

pub returns-in-Ok-clause-leads : goal.returns-in-Ok-clause-leads
returns-in-Ok-clause-leads c = λ files.
    let request = view c.args.request.now in
    let contents = map (λ t. t.items) c.args.contents.now in
    let leads = c.in-Ok.ensures.leads files in
    (leads.0, subst (λ o. LeadsTo (noted_for request contents o) found_as c.noted_by.result) (sym leads.1) c.noted_by.ensures.leads)

pub returns-in-Ok-clause-explained : goal.returns-in-Ok-clause-explained
returns-in-Ok-clause-explained c =
    IfOk-weaker c.noted_by.result _ _ (λ f same. subst (IsExplained c.args.with_reasons) (sym same) c.in-Ok.ensures.explained) c.noted_by.ensures.keeps

pub returns-in-Err-clause-leads : goal.returns-in-Err-clause-leads
returns-in-Err-clause-leads c = λ files.
    let request = view c.args.request.now in
    let contents = map (λ t. t.items) c.args.contents.now in
    let leads = c.in-Err.ensures.leads files in
    (leads.0, fails_on request contents (performed_by c.args.by_lines leads.0 request contents) c.in-Err.failure leads.1)
