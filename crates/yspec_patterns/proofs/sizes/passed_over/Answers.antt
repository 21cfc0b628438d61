use Rattle.std.specs.Prelude.{refl}
use Rattle.yspec_patterns.proofs.PatternLiterals.{patterns_on_literals}
use Rattle.yspec_patterns.proofs.sizes.passed_over.Goals as goal

pub returns : goal.returns
unfolding patterns_on_literals
returns c = record { side_by_side = refl; never = refl }
