use Rattle.std.proofs.Common.{refl}
use Rattle.yspec_wide.proofs.WideLiterals.{ywide_on_literals}
use Rattle.yspec_wide.proofs.versions.versions.Goals as goal

pub returns : goal.returns
unfolding ywide_on_literals
returns c = record { unsaid = refl; unknown = refl; in_the_core = refl; no_feature_in_the_core = refl }
