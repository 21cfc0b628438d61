use Rattle.std.proofs.Common.{◌≡◌, ◌-◌}
use Rattle.ysay_text.specs.Line.{behind_lines}
use Rattle.ysay_text.proofs.line.line_at.Given as goal

abbrev pub invariant-loop-at : goal.invariant-loop-at
invariant-loop-at l = behind_lines (l.number - l._at) l.rest ≡ behind_lines (l.number - 1) l.bytes
