use Rattle.ylive_marks.proofs.AgreeLemmas.{totals_there}
use Rattle.ylive_marks.proofs.agreements.same_totals.Goals as goal

pub returns : goal.returns
returns c = totals_there
