use Rattle.std.proofs.Common.{refl}
use Rattle.yspec.proofs.LiteralLemmas.{yspec_on_literals}
use Rattle.ysay_nodes.specs.Twice as twice
use Rattle.ysay_nodes.specs.Needed as needed
use Rattle.ysay_nodes.specs.Config as config
use Rattle.ysay_nodes.proofs.examples.standings.Goals as goal

pub returns : goal.returns
unfolding yspec_on_literals twice.of_line needed.of_line config.of_line
returns c = record {
  below_state = refl;
  keyless = refl;
  of_state = refl;
  state_itself = refl;
  at_the_top = refl;
}
