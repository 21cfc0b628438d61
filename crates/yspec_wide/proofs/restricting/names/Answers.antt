use Rattle.std.proofs.Common.{refl}
use Rattle.yspec_wide.proofs.WideLiterals.{ywide_on_literals}
use Rattle.yspec_wide.proofs.restricting.names.Goals as goal

pub returns : goal.returns
unfolding ywide_on_literals
returns c = record { left = refl; refused = refl; of_other_types = refl; elsewhere = refl }
