use Rattle.std.proofs.Common.{refl}
use Rattle.yspec_wide.proofs.WideLiterals.{ywide_on_literals}
use Rattle.yspec_wide.proofs.operations.left_out.Goals as goal

pub returns : goal.returns
unfolding ywide_on_literals
returns c = record { documents = refl; not_asked = refl; named = refl; needed = refl; added = refl }
