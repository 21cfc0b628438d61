use Rattle.yspec_reach.proofs.PairLemmas.{values_paid}
use Rattle.yspec_reach.proofs.laws.references_to_shared_values.Goals as goal

pub returns : goal.returns
returns c = values_paid
