use Rattle.std.proofs.Common.{refl}
use Rattle.yspec_run.proofs.ProgramLiterals.{yprogram_on_literals}
use Rattle.yspec_examples.proofs.moves.moves_refused.Goals as goal

pub returns : goal.returns
unfolding yprogram_on_literals
returns c = record {
  past_the_end = refl;
  no_such_entry = refl;
  no_entry = refl;
  unknown = refl;
  two_such_entries = refl;
  above_nothing = refl;
}
