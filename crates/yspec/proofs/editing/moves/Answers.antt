use Rattle.std.proofs.Common.{refl}
use Rattle.yspec.specs.edit.Editing.{applied}
use Rattle.yspec.proofs.LiteralLemmas.{yspec_on_literals}
use Rattle.yspec.proofs.editing.moves.Goals as goal

pub returns : goal.returns
unfolding yspec_on_literals applied
returns c = record {
  up = refl;
  down = refl;
  one_down = refl;
  by_key = refl;
  where_it_is = refl;
  item = refl;
  within_an_entry = refl;
  past_the_end = refl;
  from_past_the_end = refl;
  no_such_key = refl;
  no_such_key_first = refl;
  two_such_keys = refl;
  no_predicate = refl;
  container = refl;
  leaf = refl;
  leaf_of_no_entry = refl;
  unknown = refl;
  absent_list = refl;
  above_nothing = refl;
  position_zero = λ schema tree path. refl;
}
