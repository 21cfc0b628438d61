use Rattle.std.proofs.Common.{refl}
use Rattle.yspec_wide.proofs.WideLiterals.{ywide_on_literals}
use Rattle.yspec_wide.proofs.standing.nodes_that_stand.Goals as goal

pub returns : goal.returns
unfolding ywide_on_literals
returns c = record { used = refl; refined_besides = refl; added = refl; below = refl; cases = refl }
