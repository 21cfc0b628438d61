use Rattle.std.proofs.Common.{◌≡◌, drop}
use Rattle.yspec.specs.Forest.{row}
use Rattle.ytext.specs.View.{row_view}
use Rattle.ysay_targets.specs.Targets.{of_changes}
use Rattle.ysay_targets.proofs.targets.of_changes.Given as goal

abbrev pub invariant-loop-statement : goal.invariant-loop-statement
invariant-loop-statement l = of_changes l.line (row_view l.grouping) (row (row_view (drop l.statement-index l.statements)))
    ≡ of_changes l.line (row_view l.grouping) (row (row_view l.statements))
