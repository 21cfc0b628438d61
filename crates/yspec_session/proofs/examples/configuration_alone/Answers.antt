use Rattle.std.proofs.Common.{refl}
use Rattle.yspec.proofs.LiteralLemmas.{yspec_on_literals}
use Rattle.yspec_session.proofs.examples.configuration_alone.Goals as goal

pub returns : goal.returns
unfolding yspec_on_literals
returns c = record { whole = refl; unasked = refl; state_first = refl; gone = refl; comes_back = refl; fallen = refl }
