use Rattle.yspec_laws.proofs.LeafrefLemmas.{types_settled}
use Rattle.yspec_laws.proofs.steps.types_known.Goals as goal

pub returns : goal.returns
returns c = types_settled
