use Rattle.std.proofs.Common.{refl}
use Rattle.yspec.proofs.LiteralLemmas.{yspec_on_literals}
use Rattle.ysay_circles.specs.Places as places
use Rattle.ysay_circles.proofs.examples.standings.Goals as goal

pub returns : goal.returns
unfolding yspec_on_literals places.of_line
returns c = record {
  below_a_list = refl;
  below_another = refl;
  in_a_grouping = refl;
  below_an_action = refl;
}
