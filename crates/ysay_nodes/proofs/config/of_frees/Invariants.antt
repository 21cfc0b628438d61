use Rattle.std.proofs.Common.{◌≡◌, drop, map}
use Rattle.ytext.specs.View.{view}
use Rattle.ysay_nodes.specs.Config.{of_frees}
use Rattle.ysay_nodes.proofs.config.of_frees.Given as goal

abbrev pub invariant-loop-statement : goal.invariant-loop-statement
invariant-loop-statement l = of_frees l.line (map (λ s. view s.now) (drop l.statement-index l.statements)) ≡ of_frees l.line (map (λ s. view s.now) l.statements)
