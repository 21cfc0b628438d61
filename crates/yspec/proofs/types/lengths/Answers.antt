use Rattle.std.proofs.Common.{refl}
use Rattle.yspec.proofs.LiteralLemmas.{yspec_on_literals}
use Rattle.yspec.proofs.types.lengths.Goals as goal

pub returns-clause-three : goal.returns-clause-three
unfolding yspec_on_literals
returns-clause-three c = refl

pub returns-clause-four : goal.returns-clause-four
unfolding yspec_on_literals
returns-clause-four c = refl
