use Rattle.std.proofs.Common.{◌∙◌, ◌-◌, ◌+◌, refl, sym, arith, append-nil}
use Rattle.yschema_model.specs.View as schema_view
use Rattle.ystore.specs.Views.{store_of}
use Rattle.ystore_tree.proofs.PartLemmas.{reads_nothing, reads_on}
use Rattle.ylive_facts.specs.Keys.{holdings}
use Rattle.ylive_retell.proofs.AccountLemmas.{begun, all_up, all_ended, moved_on, read_once_more, read_so_far}
use Rattle.ylive_retell.proofs.account.enter_way.Goals as goal

pub loop-level-init : goal.loop-level-init
loop-level-init c =
    record {
      same_reference = refl;
      kept = reads_nothing (store_of c.args.counted.now);
      entered = λ way f hangs at within. (
        begun (schema_view.view c.args.schema.now) (store_of c.args.counted.now) way f hangs c.args.row (c.node_count-levels.result - 0) at
            (let many = c.node_count-levels.ensures in omega (arith, many, within)),
        sym (append-nil (holdings c.args.keys.now.items)),
        omega arith,
      );
    }

pub loop-level-preserved : goal.loop-level-preserved
loop-level-preserved c =
    record {
      same_reference = c.in_ok-here-in-Below.ensures.same_reference ∙ c.loop-level.invariant.same_reference;
      kept = reads_on (store_of c.args.counted.now) (store_of c.loop-level.counted) (store_of c.enter_above.new.counted) c.loop-level.invariant.kept c.in_ok-here-in-Below.ensures.kept;
      entered = λ way f hangs at within.
          let so = c.loop-level.invariant.entered way f hangs at within in
          moved_on (schema_view.view c.args.schema.now) (store_of c.args.counted.now) (store_of c.loop-level.counted) way f hangs c.in-Below.id c.loop-level.here
          (c.node_count-levels.result - c.loop-level._level) (c.node_count-levels.result - (c.loop-level._level + 1)) (omega arith) c.in-Below.is c.loop-level.invariant.kept
          c.in_ok-here-in-Below.here (holdings c.args.keys.now.items) (holdings c.loop-level.keys.items) (holdings c.enter_above.new.keys.items) so.0 so.1
          c.in_ok-here-in-Below.ensures.above c.in_ok-here-in-Below.ensures.held _ _ _ so.2 c.in_ok-here-in-Below.ensures.reads;
    }

pub returns-clause-way : goal.returns-clause-way
returns-clause-way c way f hangs at within =
    let so = c.loop-level.invariant.entered way f hangs at within in
    all_ended (schema_view.view c.args.schema.now) (store_of c.args.counted.now) way f hangs c.loop-level.here (c.node_count-levels.result - c.loop-level._level) so.0
    (holdings c.args.keys.now.items) (holdings c.loop-level.keys.items) (omega arith) so.1

pub returns-clause-kept : goal.returns-clause-kept
returns-clause-kept c = c.loop-level.invariant.kept

pub returns-clause-same_reference : goal.returns-clause-same_reference
returns-clause-same_reference c = c.loop-level.invariant.same_reference

pub returns-in-Top-clause-way : goal.returns-in-Top-clause-way
returns-in-Top-clause-way c way f hangs at within =
    let so = c.loop-level.invariant.entered way f hangs at within in
    all_up (schema_view.view c.args.schema.now) (store_of c.args.counted.now) way f hangs (c.node_count-levels.result - c.loop-level._level)
    (record { up = so.0.up; down = so.0.down; whole = so.0.whole; is_here = so.0.is_here ∙ c.in-Top.is; few = so.0.few })
    (holdings c.args.keys.now.items) (holdings c.loop-level.keys.items) so.1

pub returns-in-Top-clause-kept : goal.returns-in-Top-clause-kept
returns-in-Top-clause-kept c = c.loop-level.invariant.kept

pub returns-in-Top-clause-same_reference : goal.returns-in-Top-clause-same_reference
returns-in-Top-clause-same_reference c = c.loop-level.invariant.same_reference

pub returns-in_err-here-in-Below-clause-kept : goal.returns-in_err-here-in-Below-clause-kept
returns-in_err-here-in-Below-clause-kept c =
    reads_on (store_of c.args.counted.now) (store_of c.loop-level.counted) (store_of c.enter_above.new.counted) c.loop-level.invariant.kept c.in_err-here-in-Below.ensures.kept

pub returns-in_err-here-in-Below-clause-same_reference : goal.returns-in_err-here-in-Below-clause-same_reference
returns-in_err-here-in-Below-clause-same_reference c = c.in_err-here-in-Below.ensures.same_reference ∙ c.loop-level.invariant.same_reference

pub returns-clause-reads : goal.returns-clause-reads
returns-clause-reads c way f hangs at within =
    let so = c.loop-level.invariant.entered way f hangs at within in
    read_so_far (schema_view.view c.args.schema.now) way c.loop-level.here (c.node_count-levels.result - c.loop-level._level) so.0 _ _ so.2

pub returns-in-Top-clause-reads : goal.returns-in-Top-clause-reads
returns-in-Top-clause-reads c way f hangs at within =
    let so = c.loop-level.invariant.entered way f hangs at within in
    read_so_far (schema_view.view c.args.schema.now) way c.loop-level.here (c.node_count-levels.result - c.loop-level._level) so.0 _ _ so.2

pub returns-in_err-here-in-Below-clause-reads : goal.returns-in_err-here-in-Below-clause-reads
returns-in_err-here-in-Below-clause-reads c way f hangs at within =
    let so = c.loop-level.invariant.entered way f hangs at within in
    read_once_more (schema_view.view c.args.schema.now) (store_of c.args.counted.now) (store_of c.loop-level.counted) way f hangs c.in-Below.id c.loop-level.here
    (c.node_count-levels.result - c.loop-level._level) (c.node_count-levels.result - (c.loop-level._level + 1)) (omega arith) c.in-Below.is c.loop-level.invariant.kept so.0 _ _ _ so.2
    c.in_err-here-in-Below.ensures.reads
