use Rattle.ylive_marks.proofs.AgreeLemmas.{holders_counted}
use Rattle.ylive_marks.proofs.agreements.counted_holders.Goals as goal

pub returns : goal.returns
returns c = holders_counted
