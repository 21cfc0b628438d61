use Rattle.yspec_laws.proofs.WayLemmas.{each_listed}
use Rattle.yspec_laws.proofs.ListedLemmas.{all_listed}
use Rattle.yspec_laws.proofs.turns.augments_listed.Goals as goal

pub returns : goal.returns
returns c = record { found = each_listed; listed = all_listed }
