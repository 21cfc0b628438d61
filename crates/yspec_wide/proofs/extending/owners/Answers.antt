use Rattle.std.proofs.Common.{refl}
use Rattle.yspec_wide.proofs.WideLiterals.{ywide_on_literals}
use Rattle.yspec_wide.proofs.extending.owners.Goals as goal

pub returns : goal.returns
unfolding ywide_on_literals
returns c = record { using = refl; needed = refl }
