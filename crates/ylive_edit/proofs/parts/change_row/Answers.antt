use Rattle.yschema_model.specs.View as schema_view
use Rattle.ystore.specs.Views.{store_of}
use Rattle.ystore_tree.specs.Ways.{around, end_of}
use Rattle.ystore_rows.specs.declared.row.Row.TheVariants.{Top}
use Rattle.ylive_retell.specs.Standing.{standing}
use Rattle.ylive_edit.proofs.BesideLemmas.{fresh_roomed, told_roomed}
use Rattle.ylive_retell.proofs.StillLemmas.{on_err}
use Rattle.ylive_edit.proofs.PartLemmas.{err_then, prepared, stays_same}
use Rattle.ystore_tree.proofs.FrameLemmas.{keeps_same, room_same}
use Rattle.ylive_edit.proofs.ReadLemmas.{ok_then, spent_on}
use Rattle.std.proofs.Common.{refl}
use Rattle.ylive_edit.proofs.parts.change_row.Goals as goal

pub retell-requires : goal.retell-requires
retell-requires c =
    prepared c.args.swap (store_of c.args.counted.now) (store_of c.reserve_child.new.self) c.args.old.now c.args.new.now c.requires c.in_ok-reserve_child.ensures.ok

pub returns-clause-told : goal.returns-clause-told
returns-clause-told c = λ p told fresh few.
    let s = schema_view.view c.args.schema.now in
    let old = store_of c.args.counted.now in
    let mid = store_of c.reserve_child.new.self in
    let room = c.in_ok-reserve_child.ensures.ok in
    c.retell.ensures.told (prepared c.args.swap old mid c.args.old.now c.args.new.now p room) (told_roomed s old mid c.args.swap.above (around p.way p.f) room told)
    (fresh_roomed s old mid c.args.swap.above (standing (end_of Top p.way) p.loose) room fresh) few

pub returns-clause-keeps : goal.returns-clause-keeps
returns-clause-keeps c = λ p.
    c.retell.ensures.keeps (prepared c.args.swap (store_of c.args.counted.now) (store_of c.reserve_child.new.self) c.args.old.now c.args.new.now p c.in_ok-reserve_child.ensures.ok)

pub returns-clause-keeps_still : goal.returns-clause-keeps_still
returns-clause-keeps_still c =
    let old = store_of c.args.counted.now in
    let mid = store_of c.reserve_child.new.self in
    let room = c.in_ok-reserve_child.ensures.ok in
    err_then c.retell.result
    (λ still tree above loose keeps. still tree above loose (keeps_same old mid (room_same c.args.swap.above old mid room.room room.changed) tree above loose keeps))
    c.retell.ensures.keeps_still

pub returns-in_err-reserve_child-clause-keeps_still : goal.returns-in_err-reserve_child-clause-keeps_still
returns-in_err-reserve_child-clause-keeps_still c =
    let old = store_of c.args.counted.now in
    let new = store_of c.reserve_child.new.self in
    on_err c.from_residual.result (λ tree above loose keeps. keeps_same old new (stays_same old new c.in_err-reserve_child.ensures.err) tree above loose keeps)

pub returns-clause-reads : goal.returns-clause-reads
returns-clause-reads c = λ p told fresh few narrow.
    let s = schema_view.view c.args.schema.now in
    let old = store_of c.args.counted.now in
    let mid = store_of c.reserve_child.new.self in
    let room = c.in_ok-reserve_child.ensures.ok in
    ok_then c.retell.result (spent_on _ _ _ _ _ room.changed.reads refl)
    (c.retell.ensures.reads (prepared c.args.swap old mid c.args.old.now c.args.new.now p room) (told_roomed s old mid c.args.swap.above (around p.way p.f) room told)
    (fresh_roomed s old mid c.args.swap.above (standing (end_of Top p.way) p.loose) room fresh) few narrow)
