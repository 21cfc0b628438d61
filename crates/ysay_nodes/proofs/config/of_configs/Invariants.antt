use Rattle.std.proofs.Common.{◌≡◌, drop, map}
use Rattle.ytext.specs.View.{view}
use Rattle.ysay_nodes.specs.Config.{of_configs}
use Rattle.ysay_nodes.proofs.config.of_configs.Given as goal

abbrev pub invariant-loop-statement : goal.invariant-loop-statement
invariant-loop-statement l = of_configs l.line l.name l.other (map (λ s. view s.now) (drop l.statement-index l.statements))
    ≡ of_configs l.line l.name l.other (map (λ s. view s.now) l.statements)
