use Rattle.std.proofs.Common.{Bool, map, ap, sym, ◌∙◌}
use Rattle.std.proofs.lemmas.Result.{IfOk-weaker}
use Rattle.yspec_run.specs.Output.{validate}
use Rattle.yspec_run.specs.Lines as spec
use Rattle.yapp_report.specs.Failing.{reported, unsaid}
use Rattle.yapp_report.specs.declared.report.Report.TheVariants.{Document}
use Rattle.yapp.proofs.answering.told_by.Goals as goal

pub returns-then-by_lines-clause-told : goal.returns-then-by_lines-clause-told
returns-then-by_lines-clause-told c = λ language options modules files.
    let contents = map (λ t. t.items) c.args.contents.now in
    IfOk-weaker c.faults_by_lines.result _ _ (λ r tells. tells language options modules files
    ∙ ap (λ (b : Bool). spec.told_by b unsaid (validate language options c.args.document.now modules) contents (reported (Document c.args.report))) (sym c.if-by_lines.true))
    c.faults_by_lines.ensures.told

pub returns-else-by_lines-clause-told : goal.returns-else-by_lines-clause-told
returns-else-by_lines-clause-told c = λ language options modules files.
    let contents = map (λ t. t.items) c.args.contents.now in
    ap (λ (b : Bool). spec.told_by b unsaid (validate language options c.args.document.now modules) contents (reported (Document c.args.report))) (sym c.if-by_lines.false)
