use Rattle.std.proofs.Common.{List, ℕ, ◌++◌, ap, decimal, sym}
use Rattle.std.proofs.lemmas.List.{append-nil}
use Rattle.ysay_codes.specs.Codes.{reason_of}
use Rattle.ybase_output.proofs.WritingLemmas.{left_all, left_after, left_failed, left_last, left_same}
use Rattle.yapp_report.proofs.reason.write_hinted.Goals as goal

pub returns-in_err-write_texts : goal.returns-in_err-write_texts
returns-in_err-write_texts g c =
    let reason = reason_of (c.args.letter.now ++ decimal c.args.code) in
    left_failed _ _ _ _ _ _ c.from_residual.result c.from_residual.ensures.0
    (left_same _ _ _ _ _ (ap (λ (h : List ℕ). h ++ reason) (sym (append-nil c.args.hint.now))) (left_all _ _))
    c.in_err-write_texts.ensures

pub returns : goal.returns
returns g c =
    let reason = reason_of (c.args.letter.now ++ decimal c.args.code) in
    left_last _ _ _ _ _ c.write_reason_where.result (left_after _ _ _ _ _ _
    (left_same _ _ _ _ _ (ap (λ (h : List ℕ). h ++ reason) (sym (append-nil c.args.hint.now))) (left_all _ _))
    c.in_ok-write_texts.ensures) c.write_reason_where.ensures
