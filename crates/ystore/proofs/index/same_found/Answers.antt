use Rattle.ystore.proofs.StoreLemmas.{found_alike, same_as_itself}
use Rattle.ystore.proofs.index.same_found.Goals as goal

pub returns-clause-itself : goal.returns-clause-itself
returns-clause-itself g c key = same_as_itself g.met.K.Ord.total key

pub returns-clause-found : goal.returns-clause-found
returns-clause-found g c index key other e = found_alike g.met.K.Ord.total index key other e
