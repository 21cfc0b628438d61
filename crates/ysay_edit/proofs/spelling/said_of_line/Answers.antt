use Rattle.std.proofs.Common.{◌∙◌}
use Rattle.std.proofs.lemmas.Result.{IfOk-weaker}
use Rattle.ysay_edit.proofs.SpellingLemmas.{of_no_utf8, of_utf8}
use Rattle.ysay_edit.proofs.spelling.said_of_line.Goals as goal

pub returns-in-Ok : goal.returns-in-Ok
returns-in-Ok c = IfOk-weaker c.of_text.result _ _ (λ text e. e ∙ of_utf8 c.args.line.now c.in-Ok.text.now c.in-Ok.ensures.cases.0 c.in-Ok.ensures.cases.1) c.of_text.ensures

pub returns-in-Err : goal.returns-in-Err
returns-in-Err c = IfOk-weaker c.no_text.result _ _ (λ text e. e ∙ of_no_utf8 c.args.line.now c.in-Err.ensures.cases.0) c.no_text.ensures
