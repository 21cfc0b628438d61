use Rattle.std.proofs.Common.{◌≡◌, drop}
use Rattle.ytext.specs.View.{row_view}
use Rattle.ysay_sets.specs.Taken.{line_in}
use Rattle.ysay_sets.proofs.taken.line_in.Given as goal

abbrev pub invariant-loop-statement : goal.invariant-loop-statement
invariant-loop-statement l = line_in l.word l.name (row_view (drop l.statement-index l.row)) ≡ line_in l.word l.name (row_view l.row)
