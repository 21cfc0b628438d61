use Rattle.std.proofs.Common.{Bool, ap, sym, ◌∙◌}
use Rattle.std.proofs.lemmas.Result.{IfOk-weaker}
use Rattle.yapp_report.specs.EditedView.{refused_in}
use Rattle.yapp.specs.Edited.{by_script}
use Rattle.yapp.proofs.answering.scripted.Goals as goal

pub returns-then-by_lines-clause-refused : goal.returns-then-by_lines-clause-refused
returns-then-by_lines-clause-refused c = IfOk-weaker c.named.result _ _
    (λ e is. is ∙ ap (λ (b : Bool). by_script b c.args.script.now (refused_in c.args.edited)) (sym c.if-by_lines.true)) c.named.ensures.refused

pub returns-else-by_lines-clause-refused : goal.returns-else-by_lines-clause-refused
returns-else-by_lines-clause-refused c = ap (λ (b : Bool). by_script b c.args.script.now (refused_in c.args.edited)) (sym c.if-by_lines.false)
