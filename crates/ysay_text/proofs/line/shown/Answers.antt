use Rattle.std.proofs.Common.{◌∙◌}
use Rattle.std.proofs.lemmas.Result.{IfOk-weaker}
use Rattle.ysay_text.proofs.LineLemmas.{no_text_shown}
use Rattle.ysay_text.proofs.line.shown.Goals as goal

pub returns-in-Err : goal.returns-in-Err
returns-in-Err c = IfOk-weaker c.shown_bytes.result _ _ (λ text e. e ∙ no_text_shown c.args.line.now c.in-Err.ensures.cases.0) c.shown_bytes.ensures
