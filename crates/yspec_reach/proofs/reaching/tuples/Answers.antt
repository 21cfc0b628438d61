use Rattle.std.proofs.Common.{refl}
use Rattle.yspec_reach.proofs.ReachLiterals.{yreach_on_literals}
use Rattle.yspec_reach.proofs.reaching.tuples.Goals as goal

pub returns : goal.returns
unfolding yreach_on_literals
returns c = record { below_an_entry = refl; an_entry = refl; below_the_nearest = refl; an_entry_below_another = refl }
