use Rattle.std.proofs.Common.{ap}
use Rattle.ystore.specs.Views.{Loan}
use Rattle.ystore.proofs.CallerLemmas.{lent_once, reads_rise}
use Rattle.ystore.proofs.laws.kept_loans.Goals as goal

pub returns-clause-alloc : goal.returns-clause-alloc
returns-clause-alloc c name before lending same = ap (λ (l : Loan). l.alloc) same

pub returns-clause-loans : goal.returns-clause-loans
returns-clause-loans c name before lending same = lent_once name before lending same

pub returns-clause-reads : goal.returns-clause-reads
returns-clause-reads c name before lending same = reads_rise name before lending same
