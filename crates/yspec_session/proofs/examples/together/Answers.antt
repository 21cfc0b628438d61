use Rattle.std.proofs.Common.{refl}
use Rattle.yspec.proofs.LiteralLemmas.{yspec_on_literals}
use Rattle.yspec_session.proofs.examples.together.Goals as goal

pub returns : goal.returns
unfolding yspec_on_literals
returns c = record { fallen = refl; one_to_take_back = refl; turned_back = refl; turned_back_as_one = refl; no_further = refl; misplaced = refl }
