use Rattle.std.proofs.Common.{codes, decimal, ◌++◌, ◌∙◌, ap}
use Rattle.std.proofs.lemmas.List.{append-nil}
use Rattle.ysay_codes.specs.Codes.{reason_of}
use Rattle.ybase_output.proofs.WritingLemmas.{left_all, left_after, left_failed, left_last, broke_same, wrote_same, writes_same}
use Rattle.yapp_report.proofs.report.write_explained.Goals as goal

pub returns-in_err-write_fault : goal.returns-in_err-write_fault
returns-in_err-write_fault g c = left_failed _ _ _ _ _ _ c.from_residual.result c.from_residual.ensures.0 (left_all _ _) c.in_err-write_fault.ensures

pub returns-in_err-write_texts : goal.returns-in_err-write_texts
returns-in_err-write_texts g c = left_failed _ _ _ _ _ _ c.from_residual-in_err-write_texts.result c.from_residual-in_err-write_texts.ensures.0
    (left_after _ _ _ _ _ _ (left_all _ _) c.in_ok-write_fault.ensures)
    (broke_same _ _ _ _ (append-nil c.args.explanation.now) c.in_err-write_texts.ensures)

pub returns : goal.returns
returns g c = left_last _ _ _ _ _ c.write_reason.result
    (left_after _ _ _ _ _ _ (left_after _ _ _ _ _ _ (left_all _ _) c.in_ok-write_fault.ensures)
    (wrote_same _ _ _ _ (append-nil c.args.explanation.now) c.in_ok-write_texts.ensures))
    (writes_same _ _ _ _ c.write_reason.result (ap (λ n. reason_of (codes "V" ++ n)) (c.format.ensures.text ∙ ap decimal c.number.ensures)) c.write_reason.ensures)
