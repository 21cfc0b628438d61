use Rattle.yspec.specs.document.Faults.{faults_of}
use Rattle.yspec.specs.document.Instances.{times_in}
use Rattle.yspec.proofs.DocumentProofs.CheckingRowLemmas.{rows_are_faults}
use Rattle.yspec.proofs.DocumentProofs.HeldNodeLemmas.{schema_has_all}
use Rattle.yspec.proofs.checking.faults_by_rows.Goals as goal

pub returns : goal.returns
unfolding faults_of
returns c = λ schema tree numbered. rows_are_faults (times_in schema tree) schema tree (schema_has_all schema numbered)
