use Rattle.yspec_laws.proofs.BreakLemmas.{none_broken, first_and_least}
use Rattle.yspec_laws.proofs.breaks.told_breaks.Goals as goal

pub returns : goal.returns
returns c = record { none = none_broken; least = first_and_least }
