use Rattle.std.proofs.Common.{◌≡◌, ◌++◌, drop, map}
use Rattle.ytext.specs.View.{row_view, view}
use Rattle.ysay_nodes.specs.Needed.{added}
use Rattle.ysay_nodes.proofs.needed.added.Given as goal

abbrev pub invariant-loop-statement : goal.invariant-loop-statement
invariant-loop-statement l = map (λ s. view s.now) l.found.items ++ added (row_view (drop l.statement-index l.row)) ≡ added (row_view l.fn.row)
