use Rattle.std.proofs.Common.{refl}
use Rattle.yspec.proofs.LiteralLemmas.{yspec_on_literals}
use Rattle.yspec.proofs.types.unions.Goals as goal

pub returns-clause-string : goal.returns-clause-string
unfolding yspec_on_literals
returns-clause-string c = refl
