use Rattle.yspec_wide.proofs.CoreExpansionLemmas.{augmented_alike, unfit_alike, augment_breaks_alike, standing_alike}
use Rattle.yspec_wide.proofs.laws.core_expands.Goals as goal

pub returns : goal.returns
returns c = record { expanded = augmented_alike; unfit = unfit_alike; left = augment_breaks_alike; uncut = standing_alike }
