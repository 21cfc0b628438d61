use Rattle.yspec_wide.proofs.StandingLemmas.{all_stand_alike}
use Rattle.yspec_wide.proofs.laws.all_stand_as_they_are.Goals as goal

pub returns : goal.returns
returns c = all_stand_alike
