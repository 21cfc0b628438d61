use Rattle.std.proofs.Common.{refl}
use Rattle.yspec.proofs.LiteralLemmas.{yspec_on_literals}
use Rattle.yspec.proofs.editing.texts_of_paths.Goals as goal

pub returns : goal.returns
unfolding yspec_on_literals
returns c = record {
  names = refl;
  position = refl;
  far_position = refl;
  keys = refl;
  position_zero = refl;
  leading_zero = refl;
  two_positions = refl;
  prefixed_key = refl;
  open_quote = refl;
  blank = refl;
  no_step = refl;
  no_slash = refl;
}
