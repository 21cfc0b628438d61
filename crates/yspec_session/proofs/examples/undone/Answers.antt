use Rattle.std.proofs.Common.{refl}
use Rattle.yspec.proofs.LiteralLemmas.{yspec_on_literals}
use Rattle.yspec_session.proofs.examples.undone.Goals as goal

pub returns : goal.returns
unfolding yspec_on_literals
returns c = record { entry = refl; fault = refl; place = refl; limit = refl; nothing = refl }
