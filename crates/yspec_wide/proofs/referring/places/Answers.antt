use Rattle.std.proofs.Common.{refl}
use Rattle.yspec_wide.proofs.WideLiterals.{ywide_on_literals}
use Rattle.yspec_wide.proofs.referring.places.Goals as goal

pub returns : goal.returns
unfolding ywide_on_literals
returns c = record { members = refl; in_yang_1 = refl; in_the_core = refl; restricted = refl; wrong_beside = refl }
