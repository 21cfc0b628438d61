use Rattle.std.proofs.Common.{refl}
use Rattle.yspec.proofs.LiteralLemmas.{yspec_on_literals}
use Rattle.ysay_nodes.specs.Twice as twice
use Rattle.ysay_nodes.specs.Needed as needed
use Rattle.ysay_nodes.specs.Config as config
use Rattle.ysay_nodes.proofs.examples.doublings.Goals as goal

pub returns : goal.returns
unfolding yspec_on_literals twice.of_line needed.of_line config.of_line
returns c = record {
  through_a_case = refl;
  like_a_choice = refl;
  cases = refl;
  of_another_kind = refl;
  elsewhere = refl;
}
