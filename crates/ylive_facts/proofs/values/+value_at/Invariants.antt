use Rattle.std.proofs.Common.{length}
use Rattle.ylive_facts.proofs.values.+value_at.Given as goal

abbrev pub decreases-value_at : goal.decreases-value_at
decreases-value_at l = length l.path.now
