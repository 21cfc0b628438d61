use Rattle.std.proofs.Common.{◌≡◌, drop}
use Rattle.ytext.specs.View.{row_view}
use Rattle.ysay_forms.specs.Counts.{has_any}
use Rattle.ysay_forms.proofs.amounts.has_any.Given as goal

abbrev pub invariant-loop-statement : goal.invariant-loop-statement
invariant-loop-statement l = has_any l.other (row_view (drop l.statement-index l.statements)) ≡ has_any l.other (row_view l.statements)
