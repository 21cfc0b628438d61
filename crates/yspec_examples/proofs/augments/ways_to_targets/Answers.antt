use Rattle.std.proofs.Common.{refl}
use Rattle.yspec_run.proofs.ProgramLiterals.{yprogram_on_literals}
use Rattle.yspec_examples.proofs.augments.ways_to_targets.Goals as goal

pub returns : goal.returns
unfolding yprogram_on_literals
returns c = record { to_a_case = refl; through_a_case = refl; without_the_choice = refl; to_a_list = refl; plain_names = refl; plain_names_of_others = refl; its_own_prefix = refl; unknown_prefix = refl; first_of_a_name = refl; first_alone = refl }
