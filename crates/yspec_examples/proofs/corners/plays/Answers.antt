use Rattle.std.proofs.Common.{refl}
use Rattle.yspec_run.proofs.ProgramLiterals.{yprogram_on_literals}
use Rattle.yspec_examples.proofs.corners.plays.Goals as goal

pub returns : goal.returns
unfolding yprogram_on_literals
returns c = record {
  without_presence = refl;
  other_case = refl;
  inner_choice_of_another_case = refl;
  inner_choice = refl;
  empty_container_chooses = refl;
  part_of_a_key = refl;
  invalid_keys = refl;
  in_order_of_names = refl;
  number_at_a_container = refl;
  two_nulls = refl;
  too_great_a_number = refl;
}
