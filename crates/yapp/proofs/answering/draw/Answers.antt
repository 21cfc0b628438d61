use Rattle.std.proofs.Common.{sym, subst}
use Rattle.std.specs.Prelude.{position}
use Rattle.yspec.specs.text.Text.{is_text}
use Rattle.yspec_run.specs.Output.{drawn}
use Rattle.yapp_report.specs.Failing.{LeadsTo, reported}
use Rattle.yapp.proofs.answering.draw.Goals as goal

pub returns-in-Ok-clause-leads : goal.returns-in-Ok-clause-leads
returns-in-Ok-clause-leads c =
    let name = c.args.name.now in
    subst (λ o. LeadsTo o reported c.diagram_of.result)
    (sym (c.in-Ok.ensures (λ schema files. drawn schema name (position (λ m. is_text m.name name) schema.modules)))) c.diagram_of.ensures.leads

pub returns-in-Err-clause-leads : goal.returns-in-Err-clause-leads
returns-in-Err-clause-leads c =
    let name = c.args.name.now in
    c.in-Err.ensures (λ schema files. drawn schema name (position (λ m. is_text m.name name) schema.modules))
