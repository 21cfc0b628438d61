use Rattle.std.proofs.Common.{rules, arith, ◌≡◌, None, Some, slice_get}
use Rattle.yschema_model.specs.Layout.{number_of}
use Rattle.yschema_model.specs.View as schema_view
use Rattle.ystore.specs.Store.{children_at}
use Rattle.ystore.specs.Viewed.{viewed}
use Rattle.ylive_list.specs.Listed.{absences_of}
use Rattle.ylive_list.proofs.ChildLemmas.{one_listed, one_there, position_grows}
use Rattle.ylive_list.proofs.FoundLemmas.{adds_both, adds_at}
use Rattle.ylive_list.proofs.listing.+listing.Goals as goal
use Rattle.ylive_list.proofs.listing.+listing.Goals.{list_children-in-Some+in_ok-rest+in_ok-list_child, list_children-in_default}

pub list_children-loop-index-preserved : goal.list_children-loop-index-preserved
list_children-loop-index-preserved t c =
    let schema = schema_view.view c.args.schema.now in
    let nodes = viewed c.args.view in
    let cs = children_at nodes c.args.row in
    let at = c.loop-index in
    elim c.match-child_at.branch [
      | list_children-in-Some+in_ok-rest+in_ok-list_child w ↦
          let child = w.in-Some.child in
          let there : slice_get cs at.index ≡ Some child = search rules in
          rw (w.findings-is, w.rest-is, w.last-is, w.position-is) (record {
            position = omega (arith, position_grows at.last.0 at.position child.0.0, w.position_behind-position.ensures, at.invariant.position);
            found = one_listed schema (number_of c.args.above) nodes c.args.levels cs at.index child there _ _ _ _ at.last.0 at.position (absences_of at.rest.now) _ _ _
                at.invariant.found w.in_ok-rest.ensures.found w.in_ok-rest.ensures.rest w.position_behind-position.ensures w.in_ok-list_child.ensures;
          })
      | list_children-in_default w ↦
          let none : slice_get cs at.index ≡ None = search rules in
          absurd (one_there cs at.index (omega (arith, c.loop-index-test.true, c.child_count-index-end.ensures)) none)
    ]

pub list_branch-returns : goal.list_branch-returns
list_branch-returns t c = adds_at _ _ _ _ c.step_of.result _ _ c.step_of.ensures c.in_ok-enter.ensures.place c.in_ok-enter.ensures.found
    (adds_both _ _ _ _ _ c.in_ok-list_own.ensures c.in_ok-list_row.ensures)
    c.leave.ensures.place c.leave.ensures.found
