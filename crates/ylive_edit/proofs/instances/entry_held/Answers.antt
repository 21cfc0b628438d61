use Rattle.std.proofs.Common.{◌+◌, ◌-◌, List, length, slice_get, refl, ap, arith, sym, subst, ◌∙◌}
use Rattle.yspec.specs.schema.Schema.{keys_in}
use Rattle.yspec.specs.document.Document.{step_at}
use Rattle.yspec.specs.edit.Editing.{fits_keys, positions_where, the_one}
use Rattle.yinst_path.specs.Applying.{edit_number}
use Rattle.yinst_path.specs.Binding.{node_of}
use Rattle.yinst_path.specs.declared.edit.EditCode.TheVariants.{E6}
use Rattle.ystore.specs.Views.{store_of}
use Rattle.ystore.specs.Store.{holders_at}
use Rattle.ystore_rows.specs.declared.row.NodeId.{NodeId}
use Rattle.ystore_tree.specs.Hanging.{tree_of}
use Rattle.ystore_tree.specs.Ways.{Found}
use Rattle.ystore_tree.proofs.PartLemmas.{one_read}
use Rattle.ylive_edit.proofs.HolderLemmas.{holder_found}
use Rattle.ylive_edit.proofs.InstanceLemmas.{told_missing, none_past}
use Rattle.ylive_edit.proofs.TextLemmas.{holders_fit, holders_read, several, nowhere}
use Rattle.ylive_edit.proofs.instances.entry_held.Goals as goal

pub returns-then-holder_count-gt1-clause-meets : goal.returns-then-holder_count-gt1-clause-meets
returns-then-holder_count-gt1-clause-meets c s tree steps f keys at some is =
    let missing = edit_number c.args.missing in
    let number = c.args.id.0 in
    let positions = positions_where number (fits_keys s (keys_in (node_of s number).kind) keys) 1 (tree_of f) in
    let fit = holders_fit s (store_of c.args.counted.now) tree steps c.args.above f at number keys c.args.key.now some is in
    let count = c.holder_count.ensures.count in
    let test = c.if-holder_count-gt1.true in
    told_missing E6 c.refused.result (the_one missing number positions) c.refused.ensures
    (several missing number positions (omega (arith, fit, count, test)))

pub returns-in-Some-clause-meets : goal.returns-in-Some-clause-meets
returns-in-Some-clause-meets c s tree steps f keys at some is =
    let old = store_of c.args.counted.now in
    let mid = store_of c.holder_count.new.self in
    let key = c.args.key.now in
    let id = c.args.id in
    let same = holders_read old mid key (one_read old mid c.holder_count.ensures.counted.store) in
    let first = sym (ap (λ (ids : List NodeId). slice_get ids 0) same) ∙ sym c.in-Some.ensures.holder in
    let fit = holders_fit s old tree steps c.args.above f at id.0 keys key some is in
    let count = c.holder_count.ensures.count in
    let few = c.if-holder_count-gt1.false in
    let found = holder_found s old tree steps c.args.above f at id keys key some is c.in-Some.node first (omega (arith, fit, count, few)) in
    (step_at id.0 (1 + found.0), ap (the_one (edit_number c.args.missing) id.0) found.1, refl, subst (λ k. Found id k c.in-Some.node f) (omega arith) found.2)

pub returns-in-None-clause-meets : goal.returns-in-None-clause-meets
returns-in-None-clause-meets c s tree steps f keys at some is =
    let old = store_of c.args.counted.now in
    let mid = store_of c.holder_count.new.self in
    let missing = edit_number c.args.missing in
    let number = c.args.id.0 in
    let positions = positions_where number (fits_keys s (keys_in (node_of s number).kind) keys) 1 (tree_of f) in
    let fit = holders_fit s old tree steps c.args.above f at number keys c.args.key.now some is in
    let same = ap length (holders_read old mid c.args.key.now (one_read old mid c.holder_count.ensures.counted.store)) in
    let past = none_past (holders_at mid c.args.key.now) 0 (sym c.in-None.ensures.holder) in
    told_missing c.args.missing c.refused-in-None.result (the_one missing number positions) c.refused-in-None.ensures
    (nowhere missing number positions (omega (arith, fit, same, past)))
