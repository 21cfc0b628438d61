use Rattle.std.proofs.Common.{[], ◌++◌, ap₂}
use Rattle.std.specs.Prelude.{if◌then◌else◌}
use Rattle.yspec.specs.text.Text.{Text}
use Rattle.ysay_codes.specs.Codes.{reason_of}
use Rattle.ybase_output.proofs.WritingLemmas.{left_all, left_failed, writes_after, writes_same}
use Rattle.yapp_report.proofs.PartLemmas.{told_of_edit, told_of_value}
use Rattle.yapp_report.proofs.report.write_refused_line.Goals as goal

pub returns-in_err-write_refused_code : goal.returns-in_err-write_refused_code
returns-in_err-write_refused_code g c =
    left_failed _ _ _ _ _ _ c.from_residual.result c.from_residual.ensures.0 (left_all _ _) c.in_err-write_refused_code.ensures

pub returns-in-Some : goal.returns-in-Some
returns-in-Some g c = writes_after _ _ _ _ _ c.write_hinted_where.result c.in_ok-write_refused_code.ensures
    (writes_same _ _ _ _ c.write_hinted_where.result
    (ap₂ (λ (h t : Text). if c.args.with_reasons then h ++ reason_of t else []) c.as_str-hint.ensures.value
    (told_of_value c.args.line.now.refusal c.in-Some.value _ c.in-Some.is c.number.ensures))
    c.write_hinted_where.ensures)

pub returns-in-None : goal.returns-in-None
returns-in-None g c = writes_after _ _ _ _ _ c.write_hinted_where-in-None.result c.in_ok-write_refused_code.ensures
    (writes_same _ _ _ _ c.write_hinted_where-in-None.result
    (ap₂ (λ (h t : Text). if c.args.with_reasons then h ++ reason_of t else []) c.as_str-hint.ensures.value
    (told_of_edit c.args.line.now.refusal _ c.in-None.is c.number-in-None.ensures))
    c.write_hinted_where-in-None.ensures)
