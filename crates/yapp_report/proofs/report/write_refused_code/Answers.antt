use Rattle.std.proofs.Common.{option_map, string_bytes, sym}
use Rattle.ybase_output.proofs.WritingLemmas.{left_all, left_after, left_failed, left_last, left_same}
use Rattle.yapp_report.proofs.PartLemmas.{coded_line}
use Rattle.yapp_report.proofs.report.write_refused_code.Goals as goal

pub returns-in_err-write_line_front : goal.returns-in_err-write_line_front
returns-in_err-write_line_front g c = left_failed _ _ _ _ _ _ c.from_residual.result c.from_residual.ensures.0
    (left_same _ _ _ _ _ (sym (coded_line (option_map string_bytes c.args.script.now) c.args.line.now)) (left_all _ _)) c.in_err-write_line_front.ensures

pub returns : goal.returns
returns g c = left_last _ _ _ _ _ c.write_code.result
    (left_after _ _ _ _ _ _ (left_same _ _ _ _ _ (sym (coded_line (option_map string_bytes c.args.script.now) c.args.line.now)) (left_all _ _)) c.in_ok-write_line_front.ensures)
    c.write_code.ensures
