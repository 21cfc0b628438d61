use Rattle.std.proofs.Common.{refl}
use Rattle.yspec_run.proofs.ProgramLiterals.{yprogram_on_literals}
use Rattle.yspec_examples.proofs.corners.edits.Goals as goal

pub returns : goal.returns
unfolding yprogram_on_literals
returns c = record {
  absent_list = refl;
  absent_leaf = refl;
  canonical_key = refl;
  invalid_key = refl;
  created_at_a_position = refl;
}
