use Rattle.std.proofs.Common.{◌≡◌, drop}
use Rattle.ysay_text.specs.Line.{without_blanks}
use Rattle.ysay_text.proofs.line.without_blanks.Given as goal

abbrev pub invariant-loop-at : goal.invariant-loop-at
invariant-loop-at l = without_blanks (drop l.at l.line) ≡ without_blanks l.line
