use Rattle.std.proofs.Common.{refl}
use Rattle.yspec_run.proofs.ProgramLiterals.{yprogram_on_literals}
use Rattle.yspec_examples.proofs.corners.references.Goals as goal

pub returns : goal.returns
unfolding yprogram_on_literals
returns c = record {
  state_unique = refl;
  into_a_circle = refl;
  type_at_the_end = refl;
  each_default = refl;
  no_default = refl;
  default_without_presence = refl;
  required_by_the_first = refl;
}
