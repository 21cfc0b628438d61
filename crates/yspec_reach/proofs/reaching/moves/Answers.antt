use Rattle.std.proofs.Common.{refl}
use Rattle.yspec_reach.proofs.ReachLiterals.{yreach_on_literals}
use Rattle.yspec_reach.proofs.reaching.moves.Goals as goal

pub returns : goal.returns
unfolding yreach_on_literals
returns c = record { items = refl; entries = refl }
