use Rattle.std.specs.Prelude.{refl}
use Rattle.yspec_patterns.proofs.PatternLiterals.{patterns_on_literals}
use Rattle.yspec_patterns.proofs.escapes.letters.Goals as goal

pub returns : goal.returns
unfolding patterns_on_literals
returns c = record { characters = refl; digits = refl; white = refl; words = refl; name_starts = refl; name_characters = refl; outside = refl }
