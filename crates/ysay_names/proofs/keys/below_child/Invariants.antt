use Rattle.std.proofs.Common.{◌≡◌, drop}
use Rattle.ytext.specs.View.{row_view}
use Rattle.ysay_names.specs.Keys.{below_child}
use Rattle.ysay_names.proofs.keys.below_child.Given as goal

abbrev pub invariant-loop-statement : goal.invariant-loop-statement
invariant-loop-statement l = below_child l.name (row_view (drop l.statement-index l.row)) ≡ below_child l.name (row_view l.fn.row)
