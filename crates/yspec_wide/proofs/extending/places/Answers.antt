use Rattle.std.proofs.Common.{refl}
use Rattle.yspec_wide.proofs.WideLiterals.{ywide_on_literals}
use Rattle.yspec_wide.proofs.extending.places.Goals as goal

pub returns : goal.returns
unfolding ywide_on_literals
returns c = record { taken = refl; misplaced = refl; paths = refl; counts = refl; of_yang_1 = refl; in_the_core = refl }
