use Rattle.std.proofs.Common.{refl}
use Rattle.ylive_retell.proofs.values.add_pair.Goals as goal

pub returns-clause-reads : goal.returns-clause-reads
returns-clause-reads c held f tree agrees totals = (c.add_value.ensures.follows held f tree agrees totals refl refl).reads
