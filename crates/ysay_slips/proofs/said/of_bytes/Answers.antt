use Rattle.std.proofs.Common.{sym, ap, ◌∙◌}
use Rattle.std.proofs.lemmas.Result.{IfOk-weaker}
use Rattle.ysay_slips.specs.Said.{of_text}
use Rattle.ysay_slips.proofs.BytesLemmas.{of_none, of_some}
use Rattle.ysay_slips.proofs.said.of_bytes.Goals as goal

pub returns-in-Ok : goal.returns-in-Ok
returns-in-Ok c =
    let is = c.in-Ok.ensures.cases in
    IfOk-weaker c.of_text.result _ _ (λ said e. e ∙ (ap of_text is.0 ∙ sym (of_some c.args.bytes.now is.1))) c.of_text.ensures

pub returns-in-Err : goal.returns-in-Err
returns-in-Err c = c.new.ensures.bytes ∙ sym (of_none c.args.bytes.now c.in-Err.ensures.cases.0)
