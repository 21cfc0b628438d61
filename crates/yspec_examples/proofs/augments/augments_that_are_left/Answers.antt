use Rattle.std.proofs.Common.{refl}
use Rattle.yspec_run.proofs.ProgramLiterals.{yprogram_on_literals}
use Rattle.yspec_examples.proofs.augments.augments_that_are_left.Goals as goal

pub returns : goal.returns
unfolding yprogram_on_literals
returns c = record { no_target = refl; no_way = refl; leaf = refl; leaf_list = refl; case_in_a_container = refl; case_in_a_case = refl; uses_in_a_choice = refl; uses_in_a_case = refl; that_alone = refl; nothing_added = refl; each_waiting_for_the_other = refl; unfit_refine = refl; unfit_refine_of_one_left = refl }
