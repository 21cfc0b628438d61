use Rattle.std.proofs.Common.{refl}
use Rattle.yspec_wide.proofs.WideLiterals.{ywide_on_literals}
use Rattle.yspec_wide.proofs.binaries.places.Goals as goal

pub returns : goal.returns
unfolding ywide_on_literals
returns c = record { lengths = refl; others = refl; of_yang_1 = refl; in_the_core = refl; no_instance_identifier = refl; no_name_of_a_typedef = refl }
