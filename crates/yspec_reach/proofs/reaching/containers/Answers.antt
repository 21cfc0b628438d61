use Rattle.std.proofs.Common.{refl}
use Rattle.yspec_reach.proofs.ReachLiterals.{yreach_on_literals}
use Rattle.yspec_reach.proofs.reaching.containers.Goals as goal

pub returns : goal.returns
unfolding yreach_on_literals
returns c = record { sizes = refl; defaults_inside = refl; defaults_outside = refl }
