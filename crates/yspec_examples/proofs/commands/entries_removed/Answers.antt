use Rattle.std.proofs.Common.{refl}
use Rattle.yspec_run.proofs.ProgramLiterals.{yprogram_on_literals}
use Rattle.yspec_examples.proofs.commands.entries_removed.Goals as goal

pub returns : goal.returns
unfolding yprogram_on_literals
returns c = record {
  moved = refl;
  twice = refl;
  one_left = refl;
  none_left = refl;
}
