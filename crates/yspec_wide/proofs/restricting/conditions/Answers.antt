use Rattle.std.proofs.Common.{refl}
use Rattle.yspec_wide.proofs.WideLiterals.{ywide_on_literals}
use Rattle.yspec_wide.proofs.restricting.conditions.Goals as goal

pub returns : goal.returns
unfolding ywide_on_literals
returns c = record { off_above = refl; off_below = refl; all_off = refl; of_a_default = refl }
