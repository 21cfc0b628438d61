use Rattle.std.proofs.Common.{◌≡◌, drop}
use Rattle.ytext.specs.View.{row_view}
use Rattle.ysay_names.specs.Rows.{has_word}
use Rattle.ysay_names.proofs.rows.has_word.Given as goal

abbrev pub invariant-loop-statement : goal.invariant-loop-statement
invariant-loop-statement l = has_word l.word (row_view (drop l.statement-index l.row)) ≡ has_word l.word (row_view l.row)
