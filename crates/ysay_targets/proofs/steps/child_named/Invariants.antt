use Rattle.std.proofs.Common.{◌≡◌, drop}
use Rattle.ytext.specs.View.{row_view}
use Rattle.ysay_targets.specs.Steps.{child_named}
use Rattle.ysay_targets.proofs.steps.child_named.Given as goal

abbrev pub invariant-loop-statement : goal.invariant-loop-statement
invariant-loop-statement l = child_named l.name (row_view (drop l.statement-index l.row)) ≡ child_named l.name (row_view l.fn.row)
