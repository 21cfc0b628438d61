use Rattle.std.proofs.Common.{refl}
use Rattle.yspec_run.proofs.ProgramLiterals.{yprogram_on_literals}
use Rattle.yspec_examples.proofs.moves.faults_in_their_order.Goals as goal

pub returns : goal.returns
unfolding yprogram_on_literals
returns c = record {
  told_before = refl;
  first_down = refl;
  last_up = refl;
  between = refl;
  below_one = refl;
  items_below_one = refl;
}
