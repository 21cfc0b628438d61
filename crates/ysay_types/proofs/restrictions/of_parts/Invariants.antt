use Rattle.std.proofs.Common.{◌≡◌, drop}
use Rattle.yspec.specs.Forest.{row}
use Rattle.ytext.specs.View.{row_view}
use Rattle.ysay_types.specs.Restrictions.{of_parts}
use Rattle.ysay_types.proofs.restrictions.of_parts.Given as goal

abbrev pub invariant-loop-statement : goal.invariant-loop-statement
invariant-loop-statement l = of_parts l.name (row (row_view (drop l.statement-index l.statements))) ≡ of_parts l.name (row (row_view l.statements))
