use Rattle.std.proofs.Common.{refl}
use Rattle.yspec_run.proofs.ProgramLiterals.{yprogram_on_literals}
use Rattle.yspec_examples.proofs.modules.refused_nodes.Goals as goal

pub returns : goal.returns
unfolding yprogram_on_literals
returns c = record { too_great_a_default = refl; mandatory_default = refl; equal_defaults = refl; no_case = refl; mandatory_in_default_case = refl; no_key_leaf = refl; key_twice = refl; container_key = refl; mixed_unique = refl; unique_through_a_list = refl; no_key = refl; below_state = refl; nowhere = refl; to_a_container = refl; to_itself = refl; to_state = refl; least_line = refl }
