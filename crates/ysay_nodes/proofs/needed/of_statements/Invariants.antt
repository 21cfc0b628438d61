use Rattle.std.proofs.Common.{◌≡◌, drop, map}
use Rattle.ytext.specs.View.{view}
use Rattle.ysay_nodes.specs.Needed.{of_entries}
use Rattle.ysay_nodes.proofs.needed.of_statements.Given as goal

abbrev pub invariant-loop-statement : goal.invariant-loop-statement
invariant-loop-statement l = of_entries l.line (map (λ s. view s.now) (drop l.statement-index l.statements)) ≡ of_entries l.line (map (λ s. view s.now) l.statements)
