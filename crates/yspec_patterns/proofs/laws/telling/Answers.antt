use Rattle.yspec_patterns.proofs.FitsLemmas.{fits_of_accepts, accepts_of_fits}
use Rattle.yspec_patterns.proofs.laws.telling.Goals as goal

pub returns : goal.returns
returns c = record { tells = λ p t. (fits_of_accepts p t, accepts_of_fits p t) }
