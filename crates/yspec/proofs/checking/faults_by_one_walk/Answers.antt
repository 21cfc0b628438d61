use Rattle.std.proofs.Common.{sym, ◌∙◌}
use Rattle.yspec.specs.document.Faults.{faults_of, row_times}
use Rattle.yspec.specs.document.Instances.{times_in}
use Rattle.yspec.proofs.DocumentProofs.CheckingRowLemmas.{rows_are_faults}
use Rattle.yspec.proofs.DocumentProofs.FrontFaultLemmas.{front_faults_are}
use Rattle.yspec.proofs.DocumentProofs.HeldNodeLemmas.{schema_has_all}
use Rattle.yspec.proofs.checking.faults_by_one_walk.Goals as goal

pub returns : goal.returns
unfolding faults_of
returns c = λ schema tree numbered sorted. rows_are_faults (times_in schema tree) schema tree (schema_has_all schema numbered)
    ∙ sym (front_faults_are (times_in schema tree) schema schema.nodes 0 (row_times schema tree) tree numbered sorted)
