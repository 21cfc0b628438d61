use Rattle.std.proofs.Common.{refl}
use Rattle.yspec_wide.proofs.WideLiterals.{ywide_on_literals}
use Rattle.yspec_wide.proofs.anything.places.Goals as goal

pub returns : goal.returns
unfolding ywide_on_literals
returns c = record { taken = refl; misplaced = refl; of_yang_1 = refl; conditions = refl; in_the_core = refl; levels = refl }
