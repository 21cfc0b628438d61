use Rattle.std.proofs.Common.{refl}
use Rattle.yspec_run.proofs.ProgramLiterals.{yprogram_on_literals}
use Rattle.yspec_examples.proofs.commands.lines_of_scripts.Goals as goal

pub returns : goal.returns
unfolding yprogram_on_literals
returns c = record {
  none = refl;
  unended = refl;
  ended = refl;
  returns = refl;
}
