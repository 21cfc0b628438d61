use Rattle.yspec.proofs.DocumentProofs.FittingReadLemmas.{read_fits}
use Rattle.yspec.proofs.DocumentProofs.SortingLemmas.{in_order}
use Rattle.yspec.proofs.reading.read_documents_fit.Goals as goal

pub returns-clause-fit : goal.returns-clause-fit
returns-clause-fit c = λ schema bytes tree numbered is. read_fits schema bytes tree numbered is

pub returns-clause-sorted : goal.returns-clause-sorted
returns-clause-sorted c = λ schema tree fits. in_order schema tree fits
