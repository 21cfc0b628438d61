use Rattle.std.proofs.Common.{◌≡◌, drop, map}
use Rattle.ysay_pattern.specs.Said.{of_patterns}
use Rattle.ysay_pattern.proofs.said.of_patterns.Given as goal

abbrev pub invariant-loop-pattern : goal.invariant-loop-pattern
invariant-loop-pattern l = of_patterns (map (λ t. t.now) (drop l.pattern-index l.patterns)) ≡ of_patterns (map (λ t. t.now) l.patterns)
