use Rattle.std.proofs.Common.{◌≡◌, drop}
use Rattle.yspec.specs.Forest.{row}
use Rattle.ytext.specs.View.{row_view}
use Rattle.ysay_names.specs.Keys.{of_list, of_statements}
use Rattle.ysay_names.proofs.keys.of_list.Given as goal

abbrev pub invariant-loop-statement : goal.invariant-loop-statement
invariant-loop-statement l = of_statements (row_view l.statements) (row (row_view (drop l.statement-index l.statements))) ≡ of_list (row_view l.statements)
