use Rattle.std.specs.Prelude.{refl}
use Rattle.yspec_patterns.proofs.PatternLiterals.{patterns_on_literals}
use Rattle.yspec_patterns.proofs.pieces.quantities.Goals as goal

pub returns : goal.returns
unfolding patterns_on_literals
returns c = record { optional = refl; any_number = refl; some = refl; exactly = refl; at_least = refl; between = refl; never = refl; groups = refl; classes = refl }
