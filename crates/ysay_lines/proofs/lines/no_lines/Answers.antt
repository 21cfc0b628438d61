use Rattle.std.proofs.Common.{None, sym}
use Rattle.ysay_lines.specs.Lines.{at_line}
use Rattle.ysay_lines.proofs.AnswerLemmas.{from_single}
use Rattle.ysay_lines.proofs.lines.no_lines.Goals as goal

pub returns : goal.returns
returns c = λ place. sym (from_single (at_line 1 1) None place)
