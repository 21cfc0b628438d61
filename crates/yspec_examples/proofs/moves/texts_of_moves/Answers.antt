use Rattle.std.proofs.Common.{refl}
use Rattle.yspec_run.proofs.ProgramLiterals.{yprogram_on_literals}
use Rattle.yspec_examples.proofs.moves.texts_of_moves.Goals as goal

pub returns : goal.returns
unfolding yprogram_on_literals
returns c = record {
  spaces = refl;
  no_position = refl;
  no_number = refl;
  more_behind = refl;
  far = refl;
  other_words = refl;
}
