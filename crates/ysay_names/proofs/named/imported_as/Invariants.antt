use Rattle.std.proofs.Common.{◌≡◌, drop}
use Rattle.ytext.specs.View.{row_view}
use Rattle.ysay_names.specs.Names.{imported_as}
use Rattle.ysay_names.proofs.named.imported_as.Given as goal

abbrev pub invariant-loop-statement : goal.invariant-loop-statement
invariant-loop-statement l = imported_as l.prefix (row_view (drop l.statement-index l.row)) ≡ imported_as l.prefix (row_view l.fn.row)
