use Rattle.std.specs.Prelude.{refl}
use Rattle.yspec_patterns.proofs.PatternLiterals.{patterns_on_literals}
use Rattle.yspec_patterns.proofs.classes.members.Goals as goal

pub returns : goal.returns
unfolding patterns_on_literals
returns c = record { ranges = refl; inverted = refl; sets = refl; carets = refl }
