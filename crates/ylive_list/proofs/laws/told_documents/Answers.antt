use Rattle.ylive_list.proofs.TellingLemmas.{list_is, faults_are, total_is}
use Rattle.ylive_list.proofs.laws.told_documents.Goals as goal

pub returns : goal.returns
returns c = record { listed = list_is; faults = faults_are; total = total_is }
