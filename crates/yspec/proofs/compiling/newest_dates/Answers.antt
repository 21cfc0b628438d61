use Rattle.yspec.proofs.LinkingProofs.NewestLemmas.{newest_is_one, newest_is_latest, none_of_none}
use Rattle.yspec.proofs.compiling.newest_dates.Goals as goal

pub returns : goal.returns
returns c = record { one = newest_is_one; latest = newest_is_latest; none = none_of_none }
