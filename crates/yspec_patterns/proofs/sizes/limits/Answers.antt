use Rattle.std.specs.Prelude.{refl}
use Rattle.yspec_patterns.proofs.PatternLiterals.{patterns_on_literals}
use Rattle.yspec_patterns.proofs.sizes.limits.Goals as goal

pub returns : goal.returns
unfolding patterns_on_literals
returns c = record { repeated = refl; at_most = refl; without_bound = refl; groups = refl; nothing = refl; loops = refl; any = refl; named = refl }
