use Rattle.std.proofs.Common.{refl}
use Rattle.yspec.proofs.LiteralLemmas.{yspec_on_literals}
use Rattle.ysay_text.specs.Near.{is_near, nearest}
use Rattle.ysay_edit.proofs.examples.predicates.Goals as goal

pub returns : goal.returns
unfolding yspec_on_literals is_near nearest
returns c = record {
  of_list = refl;
  other_key = refl;
  of_leaf_list = refl;
  of_container = refl;
  of_leaf = refl;
  of_added_entry = refl;
  of_added_item = refl;
  of_added_leaf = refl;
  below_an_entry = refl;
  in_place = refl;
  of_moved_list = refl;
  of_moved_leaf = refl;
  of_moved_container = refl;
  of_moved_item = refl;
}
