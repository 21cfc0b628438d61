use Rattle.std.proofs.Common.{refl}
use Rattle.yspec_wide.proofs.WideLiterals.{ywide_on_literals}
use Rattle.yspec_wide.proofs.guards.rules.Goals as goal

pub returns : goal.returns
unfolding ywide_on_literals
returns c = record { keys = refl; keys_of_yang_1 = refl; additions = refl; additions_of_yang_1 = refl }
