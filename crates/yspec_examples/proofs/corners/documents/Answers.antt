use Rattle.std.proofs.Common.{refl}
use Rattle.yspec_run.proofs.ProgramLiterals.{yprogram_on_literals}
use Rattle.yspec_examples.proofs.corners.documents.Goals as goal

pub returns : goal.returns
unfolding yprogram_on_literals
returns c = record {
  mandatory_key = refl;
  state_items = refl;
  reference_before_repetition = refl;
  implied_default = refl;
  both_cases = refl;
  printed_tag = refl;
  name_of_a_later_child = refl;
  path_through_another_module = refl;
  name_of_an_earlier_child = refl;
}
