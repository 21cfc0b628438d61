use Rattle.yspec.proofs.TypeProofs.OrderLemmas.{tells_values}
use Rattle.yspec.proofs.types.equal_values.Goals as goal

pub returns-clause-told_apart : goal.returns-clause-told_apart
returns-clause-told_apart c = tells_values
