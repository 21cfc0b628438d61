use Rattle.std.proofs.Common.{refl}
use Rattle.yspec_run.proofs.ProgramLiterals.{yprogram_on_literals}
use Rattle.yspec_examples.proofs.augments.configuration_added_to_others.Goals as goal

pub returns : goal.returns
unfolding yprogram_on_literals
returns c = record { leaf = refl; choice = refl; list = refl; list_of_none = refl; leaf_list = refl; container = refl; presence = refl; later = refl; three_modules = refl; refined = refl; to_a_case = refl; to_a_list = refl; to_a_container_with_presence = refl; single_node = refl; case = refl; state = refl; below_state = refl; its_own_module = refl }
