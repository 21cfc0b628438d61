use Rattle.std.proofs.Common.{◌≡◌, drop}
use Rattle.ytext.specs.View.{row_view}
use Rattle.ysay_targets.specs.Leafrefs.{below_type}
use Rattle.ysay_targets.proofs.leafrefs.below_type.Given as goal

abbrev pub invariant-loop-statement : goal.invariant-loop-statement
invariant-loop-statement l = below_type (row_view (drop l.statement-index l.row)) ≡ below_type (row_view l.fn.row)
