use Rattle.ybase_output.proofs.WritingLemmas.{left_all, left_after, left_failed, left_last}
use Rattle.yapp_report.proofs.failure.write_refusal.Goals as goal

pub returns-in_err-write_told_line : goal.returns-in_err-write_told_line
returns-in_err-write_told_line g c =
    left_failed _ _ _ _ _ _ c.from_residual.result c.from_residual.ensures.0 (left_all _ _) c.in_err-write_told_line.ensures

pub returns : goal.returns
returns g c = left_last _ _ _ _ _ c.write_hinted_where.result
    (left_after _ _ _ _ _ _ (left_all _ _) c.in_ok-write_told_line.ensures) c.write_hinted_where.ensures
