use Rattle.std.proofs.Common.{◌≡◌, length, map}
use Rattle.yschema_model.specs.Layout.{number_of}
use Rattle.yschema_model.specs.View as schema_view
use Rattle.yspec_play.specs.Merging.{absence_fault, up_to, behind}
use Rattle.ylive_list.specs.Listed.{absences_of}
use Rattle.ylive_list.proofs.FoundLemmas.{Leaves}
use Rattle.ylive_list.proofs.absent.list_up_to.Given as goal

-- what is told of those that are left, and which are left behind them
abbrev pub invariant-loop-first : goal.invariant-loop-first
invariant-loop-first l =
    let fault = absence_fault (schema_view.view l.schema) (number_of l.above) in
    record {
      found : Leaves l.fn.findings l.findings (map fault (up_to l.id.0 (absences_of l.rest))) (map fault (up_to l.id.0 (absences_of l.play)));
      behind : behind l.id.0 (absences_of l.rest) ≡ behind l.id.0 (absences_of l.play);
    }

abbrev pub decreases-loop-first : goal.decreases-loop-first
decreases-loop-first l = length l.rest
