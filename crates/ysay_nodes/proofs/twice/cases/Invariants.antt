use Rattle.std.proofs.Common.{◌≡◌, ◌++◌, drop}
use Rattle.ytext.specs.View.{row_view}
use Rattle.ysay_text.specs.Labels.{labels}
use Rattle.ysay_nodes.specs.Twice.{cases}
use Rattle.ysay_nodes.proofs.twice.cases.Given as goal

abbrev pub invariant-loop-statement : goal.invariant-loop-statement
invariant-loop-statement l = labels l.found.items ++ cases (row_view (drop l.statement-index l.row)) ≡ cases (row_view l.fn.row)
