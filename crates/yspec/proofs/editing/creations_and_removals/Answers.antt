use Rattle.std.proofs.Common.{refl}
use Rattle.yspec.proofs.LiteralLemmas.{yspec_on_literals}
use Rattle.yspec.proofs.editing.creations_and_removals.Goals as goal

pub returns : goal.returns
unfolding yspec_on_literals
returns c = record {
  in_its_place = refl;
  there_already = refl;
  created_above_nothing = refl;
  removed = refl;
  removed_already = refl;
  one_after_the_other = refl;
}
