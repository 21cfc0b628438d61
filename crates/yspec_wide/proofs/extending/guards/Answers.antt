use Rattle.std.proofs.Common.{refl}
use Rattle.yspec_wide.proofs.WideLiterals.{ywide_on_literals}
use Rattle.yspec_wide.proofs.extending.guards.Goals as goal

pub returns : goal.returns
unfolding ywide_on_literals
returns c = record { chosen = refl; off = refl; whens = refl }
