use Rattle.std.proofs.Common.{refl}
use Rattle.yspec_reach.proofs.ReachLiterals.{yreach_on_literals}
use Rattle.yspec_reach.proofs.reaching.values.Goals as goal

pub returns : goal.returns
unfolding yreach_on_literals
returns c = record { unused_default = refl; old_and_new = refl; used_before = refl; nothing_else = refl }
