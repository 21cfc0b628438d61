use Rattle.std.specs.Prelude.{refl}
use Rattle.yspec_patterns.proofs.PatternLiterals.{patterns_on_literals}
use Rattle.yspec_patterns.proofs.classes.subtractions.Goals as goal

pub returns : goal.returns
unfolding patterns_on_literals
returns c = record { less = refl; nested = refl; of_inverted = refl; inverted = refl; of_a_range = refl }
