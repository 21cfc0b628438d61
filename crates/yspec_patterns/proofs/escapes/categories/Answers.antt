use Rattle.std.specs.Prelude.{refl}
use Rattle.yspec_patterns.proofs.PatternLiterals.{patterns_on_literals}
use Rattle.yspec_patterns.proofs.escapes.categories.Goals as goal

pub returns : goal.returns
unfolding patterns_on_literals
returns c = record { groups = refl; letters = refl; marks_and_numbers = refl; punctuation = refl; separators_and_symbols = refl; others = refl; outside = refl }
