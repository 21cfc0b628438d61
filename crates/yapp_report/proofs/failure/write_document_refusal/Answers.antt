use Rattle.ybase_output.proofs.WritingLemmas.{left_all, left_after, left_failed, left_last}
use Rattle.yapp_report.proofs.failure.write_document_refusal.Goals as goal

pub returns-in_err-write_told_document : goal.returns-in_err-write_told_document
returns-in_err-write_told_document g c =
    left_failed _ _ _ _ _ _ c.from_residual.result c.from_residual.ensures.0 (left_all _ _) c.in_err-write_told_document.ensures

pub returns : goal.returns
returns g c = left_last _ _ _ _ _ c.write_hinted_where.result
    (left_after _ _ _ _ _ _ (left_all _ _) c.in_ok-write_told_document.ensures) c.write_hinted_where.ensures
