use Rattle.ylive.proofs.JoinedLemmas.{count_is, faults_is, tells_is}
use Rattle.ylive.proofs.laws.told_documents.Goals as goal

pub returns : goal.returns
returns c = record { tells = tells_is; faults = faults_is; total = count_is }
