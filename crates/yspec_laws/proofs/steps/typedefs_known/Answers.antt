use Rattle.yspec_laws.proofs.TypedefLemmas.{typedefs_settled}
use Rattle.yspec_laws.proofs.steps.typedefs_known.Goals as goal

pub returns : goal.returns
returns c = typedefs_settled
