use Rattle.std.specs.Prelude.{refl}
use Rattle.yspec_patterns.proofs.PatternLiterals.{patterns_on_literals}
use Rattle.yspec_patterns.proofs.pieces.branches.Goals as goal

pub returns : goal.returns
unfolding patterns_on_literals
returns c = record { branches = refl; groups = refl; nothing = refl; empty = refl; whole = refl; anchors = refl; any = refl; signs = refl }
