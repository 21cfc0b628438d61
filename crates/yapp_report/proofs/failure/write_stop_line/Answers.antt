use Rattle.std.proofs.Common.{List, ℕ, ◌++◌, codes, ap₂}
use Rattle.ybase_output.proofs.WritingLemmas.{writes_same}
use Rattle.yapp_report.proofs.failure.write_stop_line.Goals as goal

pub returns : goal.returns
returns g c = writes_same _ _ _ _ c.write_texts.result
    (ap₂ (λ (line column : List ℕ). c.args.name.now ++ (codes ":" ++ (line ++ (codes ":" ++ (column ++ codes ": reading stops here\n")))))
    c.format-line.ensures.text c.format-column.ensures.text)
    c.write_texts.ensures
