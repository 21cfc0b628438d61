use Rattle.std.proofs.Common.{refl}
use Rattle.yspec_run.proofs.ProgramLiterals.{yprogram_on_literals}
use Rattle.yspec_examples.proofs.groupings.nested_refines.Goals as goal

pub returns : goal.returns
unfolding yprogram_on_literals
returns c = record { along_a_path = refl; outer = refl; inner = refl; later = refl; first_of_a_name = refl; of_the_user = refl; of_whoever_uses_it = refl; of_the_grouping = refl; by_its_own_prefixes = refl }
