use Rattle.std.proofs.Common.{refl}
use Rattle.yspec_run.proofs.ProgramLiterals.{yprogram_on_literals}
use Rattle.yspec_examples.proofs.moves.entries_moved.Goals as goal

pub returns : goal.returns
unfolding yprogram_on_literals
returns c = record {
  up = refl;
  up_written = refl;
  down = refl;
  down_written = refl;
  one_down = refl;
  where_it_is = refl;
  there_and_back = refl;
}
