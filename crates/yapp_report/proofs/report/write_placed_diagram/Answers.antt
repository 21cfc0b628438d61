use Rattle.ybase_output.proofs.WritingLemmas.{left_all, left_after, left_failed, left_last}
use Rattle.yapp_report.proofs.report.write_placed_diagram.Goals as goal

pub returns-in_err-write_gap : goal.returns-in_err-write_gap
returns-in_err-write_gap g c =
    left_failed _ _ _ _ _ _ c.from_residual.result c.from_residual.ensures.0 (left_all _ _) c.in_err-write_gap.ensures

pub returns : goal.returns
returns g c = left_last _ _ _ _ _ c.write_diagram.result
    (left_after _ _ _ _ _ _ (left_all _ _) c.in_ok-write_gap.ensures) c.write_diagram.ensures
