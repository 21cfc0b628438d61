use Rattle.yspec_laws.proofs.KeptLemmas.{each_kept}
use Rattle.yspec_laws.proofs.turns.augments_kept.Goals as goal

pub returns : goal.returns
returns c = each_kept
