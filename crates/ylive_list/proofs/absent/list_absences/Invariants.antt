use Rattle.std.proofs.Common.{drop, map}
use Rattle.yschema_model.specs.Layout.{number_of}
use Rattle.yschema_model.specs.View as schema_view
use Rattle.yspec_play.specs.Merging.{absence_fault}
use Rattle.ylive_list.specs.Listed.{absences_of}
use Rattle.ylive_list.proofs.FoundLemmas.{Leaves}
use Rattle.ylive_list.proofs.absent.list_absences.Given as goal

-- with what is told of those that are left, all is told
abbrev pub invariant-loop-absence : goal.invariant-loop-absence
invariant-loop-absence l =
    let fault = absence_fault (schema_view.view l.schema) (number_of l.above) in
    Leaves l.fn.findings l.findings (map fault (absences_of (drop l.absence-index l.play))) (map fault (absences_of l.play))
