use Rattle.std.proofs.Common.{refl}
use Rattle.yspec_run.proofs.ProgramLiterals.{yprogram_on_literals}
use Rattle.yspec_examples.proofs.moves.items_moved.Goals as goal

pub returns : goal.returns
unfolding yprogram_on_literals
returns c = record {
  equal_ones = refl;
  equal_ones_told = refl;
  of_an_entry = refl;
  of_state = refl;
  by_keys = refl;
  of_another_row = refl;
}
