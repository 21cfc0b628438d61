use Rattle.std.proofs.Common.{◌≡◌, drop}
use Rattle.ytext.specs.View.{row_view}
use Rattle.ysay_types.specs.Chain.{first_called}
use Rattle.ysay_types.proofs.chain.first_called.Given as goal

abbrev pub invariant-loop-statement : goal.invariant-loop-statement
invariant-loop-statement l = first_called l.word (row_view (drop l.statement-index l.row)) ≡ first_called l.word (row_view l.fn.row)
