use Rattle.std.proofs.Common.{arith}
use Rattle.std.specs.Prelude.{option_map}
use Rattle.yschema_model.specs.View as schema_view
use Rattle.yschema_model.specs.View.{child_view}
use Rattle.ystore.specs.Views.{store_of}
use Rattle.ystore_rows.specs.declared.row.Row.TheVariants.{Top}
use Rattle.ystore_tree.specs.Hanging.{tree_of}
use Rattle.ystore_tree.specs.Ways.{around}
use Rattle.ylive_facts.specs.Keys.{holdings}
use Rattle.ylive_retell.specs.Standing.{way_held, defaults_over}
use Rattle.ylive_retell.proofs.AccountLemmas.{hangs_read}
use Rattle.ylive_retell.proofs.PlanLemmas.{hangs_there, place_is}
use Rattle.ylive_retell.proofs.planning.enter_place.Goals as goal

pub returns-clause-place : goal.returns-clause-place
returns-clause-place c way f hangs at within =
    let s = schema_view.view c.args.schema.now in
    let row = c.in_ok-absences.ensures.row f (hangs_there (store_of c.args.counted.now) way f c.args.row at hangs) in
    record {
      keys_behind = place_is c.args.account.now c.enter_child.new.account (way_held s Top way f) (holdings c.enter_way.new.keys.items)
          (defaults_over s (option_map child_view c.args.child) (tree_of f)) row
          (c.in_ok-enter_way.ensures.way way f (hangs_read (store_of c.args.counted.now) (store_of c.enter_child.new.counted) Top (around way f) c.in_ok-absences.ensures.kept hangs) at
          (let same = c.in_ok-absences.ensures.kept.node_count in omega (arith, within, same)));
      values_behind = row.values_behind;
    }

pub returns-clause-reads : goal.returns-clause-reads
returns-clause-reads c above number way f is hangs at within =
    let child = c.in_ok-absences.ensures.reads above number is in
    let up = c.in_ok-enter_way.ensures.reads way f (hangs_read (store_of c.args.counted.now) (store_of c.enter_child.new.counted) Top (around way f) c.in_ok-absences.ensures.kept hangs) at
    (let same = c.in_ok-absences.ensures.kept.node_count in omega (arith, within, same)) in
    omega (arith, child, up)

pub returns-in_err-enter_way-clause-reads : goal.returns-in_err-enter_way-clause-reads
returns-in_err-enter_way-clause-reads c above number way f is hangs at within =
    let child = c.in_ok-absences.ensures.reads above number is in
    let up = c.in_err-enter_way.ensures.reads way f (hangs_read (store_of c.args.counted.now) (store_of c.enter_child.new.counted) Top (around way f) c.in_ok-absences.ensures.kept hangs) at
    (let same = c.in_ok-absences.ensures.kept.node_count in omega (arith, within, same)) in
    omega (arith, child, up)

pub returns-in_err-absences-clause-reads : goal.returns-in_err-absences-clause-reads
returns-in_err-absences-clause-reads c above number way f is hangs at within =
    let child = c.in_err-absences.ensures.reads above number is in omega (arith, child)
