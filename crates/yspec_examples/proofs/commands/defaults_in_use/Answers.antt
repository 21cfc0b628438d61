use Rattle.std.proofs.Common.{refl}
use Rattle.yspec_run.proofs.ProgramLiterals.{yprogram_on_literals}
use Rattle.yspec_examples.proofs.commands.defaults_in_use.Goals as goal

pub returns : goal.returns
unfolding yprogram_on_literals
returns c = record {
  stored = refl;
  removed = refl;
  of_a_case = refl;
  of_a_case_again = refl;
}
