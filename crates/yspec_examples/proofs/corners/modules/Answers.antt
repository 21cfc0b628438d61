use Rattle.std.proofs.Common.{refl}
use Rattle.yspec_run.proofs.ProgramLiterals.{yprogram_on_literals}
use Rattle.yspec_examples.proofs.corners.modules.Goals as goal

pub returns : goal.returns
unfolding yprogram_on_literals
returns c = record {
  state_key = refl;
  state_target = refl;
  entries_in_a_default_case = refl;
  mandatory_choice = refl;
  state_defaults = refl;
  choice_in_a_choice = refl;
  default_of_a_key = refl;
  presence_in_a_default_case = refl;
  two_defaults = refl;
  default_before_reference = refl;
  choice_in_a_default_case = refl;
  name_before_default = refl;
  default_beside_one_that_is_due = refl;
}
