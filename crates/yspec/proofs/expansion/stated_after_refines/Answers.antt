use Rattle.yspec.proofs.LinkingProofs.RefineLemmas.{first_stated, all_stated}
use Rattle.yspec.proofs.expansion.stated_after_refines.Goals as goal

pub returns : goal.returns
returns c = record { first = first_stated; all = all_stated }
