use Rattle.std.proofs.Common.{refl}
use Rattle.yspec_wide.proofs.WideLiterals.{ywide_on_literals}
use Rattle.yspec_wide.proofs.extending.uses_in_them.Goals as goal

pub returns : goal.returns
unfolding ywide_on_literals
returns c = record { brought = refl; circle = refl; unfit = refl; scopes = refl }
