use Rattle.std.proofs.Common.{Bool, ap}
use Rattle.ybase_output.proofs.WritingLemmas.{left_all, left_after, left_failed, left_last, left_none, left_same}
use Rattle.yapp_report.specs.Saving.{cause_where}
use Rattle.yapp_report.proofs.saving.write_unwritten.Goals as goal

pub returns-in_err-write_texts : goal.returns-in_err-write_texts
returns-in_err-write_texts g c = left_failed _ _ _ _ _ _ c.from_residual.result c.from_residual.ensures.0 (left_all _ _) c.in_err-write_texts.ensures

pub returns-then-with_reasons : goal.returns-then-with_reasons
returns-then-with_reasons g c = left_last _ _ _ _ _ c.write_cause.result
    (left_same _ _ _ _ _ (ap (λ (b : Bool). cause_where b c.args.cause c.args.name.now) c.if-with_reasons.true)
    (left_after _ _ _ _ _ _ (left_all _ _) c.in_ok-write_texts.ensures))
    c.write_cause.ensures

pub returns-else-with_reasons : goal.returns-else-with_reasons
returns-else-with_reasons g c = left_none _ _ _
    (left_same _ _ _ _ _ (ap (λ (b : Bool). cause_where b c.args.cause c.args.name.now) c.if-with_reasons.false)
    (left_after _ _ _ _ _ _ (left_all _ _) c.in_ok-write_texts.ensures))
