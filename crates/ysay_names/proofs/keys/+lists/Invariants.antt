use Rattle.std.proofs.Common.{◌≡◌, drop}
use Rattle.ytext.specs.View.{row_view}
use Rattle.ysay_names.specs.Keys.{list_in}
use Rattle.ysay_names.proofs.keys.+lists.Given as goal

abbrev pub invariant-list_in-loop-statement : goal.invariant-list_in-loop-statement
invariant-list_in-loop-statement l = list_in l.line (row_view (drop l.statement-index l.statements)) ≡ list_in l.line (row_view l.fn.statements)
