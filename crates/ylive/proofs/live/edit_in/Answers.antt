use Rattle.yschema_model.specs.View as schema_view
use Rattle.yinst_path.specs.EditView.{edit_view}
use Rattle.ystore.specs.Views.{store_of}
use Rattle.yspec.proofs.DocumentProofs.SortingLemmas.{in_order}
use Rattle.ylive.specs.declared.outcome.Applied.{Applied}
use Rattle.ylive.proofs.LiveLemmas.{applies_in, applies_not, holds_read, sorted_read}
use Rattle.ylive.proofs.ReachLemmas.{reads_in, reads_not}
use Rattle.ylive.proofs.live.edit_in.Goals as goal

pub amend-requires : goal.amend-requires
amend-requires c = sorted_read (schema_view.view c.args.schema.now) (store_of c.args.counted.now) (store_of c.total-before.new.self) c.total-before.ensures.counted.store
    c.requires

pub returns-in-Ok-clause-applies : goal.returns-in-Ok-clause-applies
returns-in-Ok-clause-applies c tree holds fits =
    applies_in c.args.schema.now (store_of c.args.counted.now) (store_of c.total-before.new.self) (store_of c.amend.new.counted) (store_of c.total.new.self) tree
    (edit_view c.args.edit.now) (record { before = c.total-before.result; after = c.total.result }) c.total-before.ensures.counted.store
    c.total.ensures.counted.store holds fits c.total-before.ensures.total c.total.ensures.total (c.in-Ok.ensures.amends tree)

pub returns-in-Err-clause-applies : goal.returns-in-Err-clause-applies
returns-in-Err-clause-applies c tree holds fits =
    applies_not (schema_view.view c.args.schema.now) (store_of c.args.counted.now) (store_of c.total-before.new.self) (store_of c.amend.new.counted) tree
    (edit_view c.args.edit.now) c.in-Err.fault c.total-before.ensures.counted.store holds fits (c.in-Err.ensures.amends tree)

pub returns-in-Ok-clause-reads : goal.returns-in-Ok-clause-reads
returns-in-Ok-clause-reads c tree holds fits =
    let s = schema_view.view c.args.schema.now in
    let first = store_of c.args.counted.now in
    let read = store_of c.total-before.new.self in
    reads_in s tree (edit_view c.args.edit.now) first read (store_of c.amend.new.counted) (store_of c.total.new.self) c.total-before.ensures.counted.store
    c.total.ensures.counted.store
    (c.in-Ok.ensures.reads tree (holds_read s first read tree c.total-before.ensures.counted.store holds) (in_order s tree fits) fits)

pub returns-in-Err-clause-reads : goal.returns-in-Err-clause-reads
returns-in-Err-clause-reads c tree holds fits =
    let s = schema_view.view c.args.schema.now in
    let first = store_of c.args.counted.now in
    let read = store_of c.total-before.new.self in
    reads_not (Unit {0}) Applied s tree (edit_view c.args.edit.now) first read (store_of c.amend.new.counted) c.in-Err.fault c.total-before.ensures.counted.store
    (c.in-Err.ensures.reads tree (holds_read s first read tree c.total-before.ensures.counted.store holds) (in_order s tree fits) fits)
