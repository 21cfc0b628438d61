use Rattle.std.proofs.Common.{refl}
use Rattle.yspec_run.proofs.ProgramLiterals.{yprogram_on_literals}
use Rattle.yspec_examples.proofs.corners.values.Goals as goal

pub returns : goal.returns
unfolding yprogram_on_literals
returns c = record {
  least = refl;
  less = refl;
  hexadecimal = refl;
  leading_zero = refl;
  carriage_return = refl;
  members = refl;
  one_value = refl;
  no_text = refl;
}
