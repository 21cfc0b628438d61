use Rattle.std.specs.Prelude.{refl}
use Rattle.yspec_patterns.proofs.PatternLiterals.{patterns_on_literals}
use Rattle.yspec_patterns.proofs.sizes.own_limits.Goals as goal

pub returns : goal.returns
unfolding patterns_on_literals
returns c = record { numbers = refl; depth = refl }
