use Rattle.std.proofs.Common.{◌≡◌, drop}
use Rattle.yspec_search.specs.Search.{has_word}
use Rattle.ytext.specs.View.{row_view}
use Rattle.ylink_search.proofs.statements.has_word.Given as goal

abbrev pub invariant-loop-statement : goal.invariant-loop-statement
invariant-loop-statement l = has_word l.fn.word (row_view (drop l.statement-index l.row)) ≡ has_word l.fn.word (row_view l.fn.row)
