use Rattle.std.proofs.Common.{refl}
use Rattle.yspec.proofs.LiteralLemmas.{yspec_on_literals}
use Rattle.yspec.proofs.types.identities.Goals as goal

pub returns-clause-behind_it_in_a_union : goal.returns-clause-behind_it_in_a_union
unfolding yspec_on_literals
returns-clause-behind_it_in_a_union c = refl
