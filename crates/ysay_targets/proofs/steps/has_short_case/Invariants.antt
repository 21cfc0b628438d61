use Rattle.std.proofs.Common.{◌≡◌, drop}
use Rattle.ytext.specs.View.{row_view}
use Rattle.ysay_targets.specs.Steps.{has_short_case}
use Rattle.ysay_targets.proofs.steps.has_short_case.Given as goal

abbrev pub invariant-loop-statement : goal.invariant-loop-statement
invariant-loop-statement l = has_short_case (row_view (drop l.statement-index l.row)) ≡ has_short_case (row_view l.row)
