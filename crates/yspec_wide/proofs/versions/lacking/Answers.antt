use Rattle.std.proofs.Common.{refl}
use Rattle.yspec_wide.proofs.WideLiterals.{ywide_on_literals}
use Rattle.yspec_wide.proofs.versions.lacking.Goals as goal

pub returns : goal.returns
unfolding ywide_on_literals
returns c = record { statements = refl; types = refl; later_import = refl; of_yang_1_1 = refl }
