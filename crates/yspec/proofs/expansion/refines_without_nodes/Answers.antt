use Rattle.yspec.proofs.LinkingProofs.GroupingLemmas.{unfit_of_none}
use Rattle.yspec.proofs.expansion.refines_without_nodes.Goals as goal

pub returns : goal.returns
returns c = unfit_of_none
