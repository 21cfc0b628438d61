use Rattle.std.proofs.Common.{string_bytes, ◌∙◌}
use Rattle.std.proofs.lemmas.List.{append-nil}
use Rattle.ybase_output.proofs.WritingLemmas.{broke_same, wrote_same}
use Rattle.yapp_report.specs.Failing.{reported}
use Rattle.yapp.proofs.RunningLemmas.{not_noted, noted}
use Rattle.yapp.proofs.saying.write_found.Goals as goal

pub returns-in_err-write_texts : goal.returns-in_err-write_texts
returns-in_err-write_texts g c =
    let f = c.args.found.now in
    not_noted _ _ c.args.with_reasons (string_bytes f.note) (reported f.report) _ c.from_residual.result c.from_residual.ensures.0
    (broke_same _ _ _ _ (append-nil c.as_str.result.now ∙ c.as_str.ensures.value) c.in_err-write_texts.ensures)

pub returns : goal.returns
returns g c =
    let f = c.args.found.now in
    noted _ _ c.args.with_reasons (string_bytes f.note) (reported f.report) _ _ _ c.write.result
    (wrote_same _ _ _ _ (append-nil c.as_str.result.now ∙ c.as_str.ensures.value) c.in_ok-write_texts.ensures) c.write.ensures
