use Rattle.std.specs.Prelude.{refl}
use Rattle.yspec_patterns.proofs.PatternLiterals.{patterns_on_literals}
use Rattle.yspec_patterns.proofs.published.addresses.Goals as goal

pub returns : goal.returns
unfolding patterns_on_literals
returns c = record { ipv4 = refl; zone = refl; prefix = refl; ipv6 = refl; domain = refl }
