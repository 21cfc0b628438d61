use Rattle.std.specs.Prelude.{refl}
use Rattle.yspec_patterns.proofs.PatternLiterals.{patterns_on_literals}
use Rattle.yspec_patterns.proofs.classes.dashes.Goals as goal

pub returns : goal.returns
unfolding patterns_on_literals
returns c = record { first = refl; last = refl; behind_a_range = refl; behind_a_set = refl; of_a_range = refl; escaped = refl }
