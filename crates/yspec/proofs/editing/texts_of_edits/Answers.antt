use Rattle.std.proofs.Common.{refl}
use Rattle.yspec.proofs.LiteralLemmas.{yspec_on_literals}
use Rattle.yspec.proofs.editing.texts_of_edits.Goals as goal

pub returns : goal.returns
unfolding yspec_on_literals
returns c = record {
  value = refl;
  spaces_behind = refl;
  space_in_a_key = refl;
  no_value = refl;
  spaces_for_a_value = refl;
  a_value_too_many = refl;
  indented = refl;
  tab = refl;
  other_verb = refl;
  position_to_move_to = refl;
  far_position_to_move_to = refl;
  no_position_to_move_to = refl;
  position_zero_to_move_to = refl;
  leading_zero_to_move_to = refl;
  two_positions_to_move_to = refl;
  sign_to_move_to = refl;
  quoted_to_move_to = refl;
}
