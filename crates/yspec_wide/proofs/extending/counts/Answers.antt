use Rattle.std.proofs.Common.{refl}
use Rattle.yspec_wide.proofs.WideLiterals.{ywide_on_literals}
use Rattle.yspec_wide.proofs.extending.counts.Goals as goal

pub returns : goal.returns
unfolding ywide_on_literals
returns c = record { plain = refl; added = refl; nested = refl; single = refl; cases = refl }
