use Rattle.std.proofs.Common.{refl}
use Rattle.yspec_wide.proofs.WideLiterals.{ywide_on_literals}
use Rattle.yspec_wide.proofs.features.features_that_are_on.Goals as goal

pub returns : goal.returns
unfolding ywide_on_literals
returns c = record { chosen_alone = refl; by_others = refl; of_another_module = refl }
