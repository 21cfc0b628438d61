use Rattle.std.proofs.Common.{refl}
use Rattle.yspec_wide.proofs.WideLiterals.{ywide_on_literals}
use Rattle.yspec_wide.proofs.versions.texts.Goals as goal

pub returns : goal.returns
unfolding ywide_on_literals
returns c = record { of_yang_1 = refl; quotes = refl; of_yang_1_1 = refl; wrong_before_the_version = refl; version_of_another = refl }
