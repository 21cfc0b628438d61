use Rattle.yspec_reach.proofs.SumLemmas.{parts_of_before}
use Rattle.yspec_reach.proofs.laws.parts_of_documents.Goals as goal

pub returns : goal.returns
returns c = parts_of_before
