use Rattle.std.proofs.Common.{◌+◌, ◌*◌, ◌≤◌, drop}
use Rattle.yschema_model.specs.Layout.{number_of}
use Rattle.yschema_model.specs.View as schema_view
use Rattle.yspec_play.specs.Merging.{merged, merged_behind}
use Rattle.ystore.specs.Store.{children_at}
use Rattle.ystore.specs.Viewed.{viewed}
use Rattle.ylive_list.specs.Listed.{absences_of, children_told}
use Rattle.ylive_list.proofs.FoundLemmas.{Leaves}
use Rattle.ylive_list.proofs.listing.+listing.Given as goal

-- a row below is listed with one level less
abbrev pub decreases-list_row : goal.decreases-list_row
decreases-list_row l = 4 * l.levels

abbrev pub decreases-list_children : goal.decreases-list_children
decreases-list_children l = 4 * l.levels + 3

abbrev pub decreases-list_child : goal.decreases-list_child
decreases-list_child l = 4 * l.levels + 2

abbrev pub decreases-list_branch : goal.decreases-list_branch
decreases-list_branch l = 4 * l.levels + 1

-- with what is told of the nodes that are left, all is told
abbrev pub invariant-list_children-loop-index : goal.invariant-list_children-loop-index
invariant-list_children-loop-index l =
    let schema = schema_view.view l.schema in
    let above = number_of l.above in
    let nodes = viewed l.view in
    record {
      position : l.position ≤ l.index;
      found : Leaves l.fn.findings l.findings
          (merged_behind schema above l.last.0 l.position (absences_of l.rest) (children_told l.fn.levels schema nodes (drop l.index (children_at nodes l.fn.row))))
          (merged schema above (absences_of l.play) (children_told l.fn.levels schema nodes (children_at nodes l.fn.row)));
    }
