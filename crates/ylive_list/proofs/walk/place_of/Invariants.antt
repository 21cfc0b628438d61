use Rattle.std.proofs.Common.{◌≡◌, ◌++◌, drop, map}
use Rattle.yschema_model.specs.View as schema_view
use Rattle.yinst_tree.specs.View.{place_view}
use Rattle.ylive_list.specs.Seen.{steps_in}
use Rattle.ylive_list.specs.Walked.{step_in}
use Rattle.ylive_list.proofs.walk.place_of.Given as goal

-- with the steps of the rows that are left, it has all of them
abbrev pub invariant-loop-row : goal.invariant-loop-row
invariant-loop-row l =
    let step = step_in (schema_view.view l.schema) in
    record {
      count : l.place.count ≡ l.row-index;
      steps : place_view (steps_in l.place) ++ map step (drop l.row-index l.rows) ≡ map step l.rows;
    }
