use Rattle.std.proofs.Common.{refl}
use Rattle.yspec_wide.proofs.WideLiterals.{ywide_on_literals}
use Rattle.yspec_wide.proofs.patterns.places.Goals as goal

pub returns : goal.returns
unfolding ywide_on_literals
returns c = record { types = refl; modifiers = refl; of_yang_1 = refl; in_the_core = refl }
