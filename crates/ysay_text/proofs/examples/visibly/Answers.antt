use Rattle.std.proofs.Common.{refl}
use Rattle.yspec.proofs.LiteralLemmas.{yspec_on_literals}
use Rattle.ysay_text.proofs.examples.visibly.Goals as goal

pub returns : goal.returns
unfolding yspec_on_literals
returns c = record {
  letters = refl;
  first = refl;
  escape = refl;
  last_of_few = refl;
  delete = refl;
  before_delete = refl;
  above_delete = refl;
  introducer = refl;
  last = refl;
  above = refl;
}
