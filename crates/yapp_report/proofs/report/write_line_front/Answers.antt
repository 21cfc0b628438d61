use Rattle.std.proofs.Common.{◌++◌, codes, option_map, string_bytes, ap, sym, ◌∙◌}
use Rattle.yspec.specs.text.Text.{Text}
use Rattle.ybase_output.proofs.WritingLemmas.{writes_same}
use Rattle.yapp_report.specs.EditedView.{line_front}
use Rattle.yapp_report.proofs.PartLemmas.{front_of}
use Rattle.yapp_report.proofs.report.write_line_front.Goals as goal

pub returns-in-Some : goal.returns-in-Some
returns-in-Some g c = writes_same _ _ _ _ c.write_texts.result
    (front_of c.as_str.result.now _ _ c.args.number _ c.as_str.ensures.value c.format-number.ensures.text c.format-column.ensures.text
    ∙ ap (λ script. line_front (option_map string_bytes script) c.args.number) (sym c.in-Some.is))
    c.write_texts.ensures
