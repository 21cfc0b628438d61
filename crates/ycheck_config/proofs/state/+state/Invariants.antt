use Rattle.std.proofs.Common.{◌≡◌, ◌≤◌, ◌++◌, drop, None}
use Rattle.std.specs.Prelude.{IfSome, option_map}
use Rattle.yspec.specs.document.StateData.{state_faults_in}
use Rattle.yschema_model.specs.View as schema_view
use Rattle.yinst_tree.specs.View.{place_view, row_view, step_view}
use Rattle.ycheck.specs.View.{views}
use Rattle.ycheck_config.proofs.state.+state.Given as goal

-- what is told so far, with what is told of the rest; no position is greater than the number of nodes that were passed
abbrev pub invariant-look_at_row-loop-stored : goal.invariant-look_at_row-loop-stored
invariant-look_at_row-loop-stored l =
    let s = schema_view.view l.schema in
    let above = place_view l.fn.findings.place.items in
    record {
      place : l.findings.place.items ≡ l.fn.findings.place.items;
      found : views l.findings.faults.items ++ state_faults_in s above (option_map step_view l.last) (row_view (drop l.stored-index l.row))
          ≡ views l.fn.findings.faults.items ++ state_faults_in s above None (row_view l.row);
      few : IfSome l.last (λ step. IfSome step.position (λ p. p ≤ l.stored-index));
    }
