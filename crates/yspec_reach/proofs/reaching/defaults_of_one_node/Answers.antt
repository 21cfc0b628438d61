use Rattle.std.proofs.Common.{refl}
use Rattle.yspec_reach.proofs.ReachLiterals.{yreach_on_literals}
use Rattle.yspec_reach.proofs.reaching.defaults_of_one_node.Goals as goal

pub returns : goal.returns
unfolding yreach_on_literals
returns c = record { most = refl }
