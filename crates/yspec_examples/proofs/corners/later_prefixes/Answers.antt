use Rattle.std.proofs.Common.{refl}
use Rattle.yspec_run.proofs.ProgramLiterals.{yprogram_on_literals}
use Rattle.yspec_examples.proofs.corners.later_prefixes.Goals as goal

pub returns : goal.returns
unfolding yprogram_on_literals
returns c = record {
  of_a_path = refl;
  of_a_refine = refl;
  of_an_augment = refl;
  of_a_key = refl;
  of_a_unique = refl;
  of_a_step_of_a_unique = refl;
}
