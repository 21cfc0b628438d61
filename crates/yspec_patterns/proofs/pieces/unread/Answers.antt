use Rattle.std.specs.Prelude.{refl}
use Rattle.yspec_patterns.proofs.PatternLiterals.{patterns_on_literals}
use Rattle.yspec_patterns.proofs.pieces.unread.Goals as goal

pub returns : goal.returns
unfolding patterns_on_literals
returns c = record { groups = refl; nothing_repeated = refl; counts = refl; orders = refl; braces = refl }
