use Rattle.std.proofs.Common.{◌≡◌, drop}
use Rattle.yspec_search.specs.Search.{argument_below}
use Rattle.ytext.specs.View.{row_view}
use Rattle.ylink_search.proofs.statements.argument_below.Given as goal

abbrev pub invariant-loop-statement : goal.invariant-loop-statement
invariant-loop-statement l = argument_below l.fn.word (row_view (drop l.statement-index l.row)) ≡ argument_below l.fn.word (row_view l.fn.row)
