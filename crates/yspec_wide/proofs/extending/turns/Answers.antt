use Rattle.std.proofs.Common.{refl}
use Rattle.yspec_wide.proofs.WideLiterals.{ywide_on_literals}
use Rattle.yspec_wide.proofs.extending.turns.Goals as goal

pub returns : goal.returns
unfolding ywide_on_literals
returns c = record { later = refl; refines = refl; refined = refl; first = refl }
