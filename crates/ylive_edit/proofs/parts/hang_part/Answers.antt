use Rattle.std.proofs.Common.{ap, arith, refl, subst, ◌∙◌}
use Rattle.std.proofs.lemmas.Bool.{false≢true}
use Rattle.yspec.specs.Forest.{end, node}
use Rattle.yschema_model.specs.View as schema_view
use Rattle.yinst_tree.specs.View.{view}
use Rattle.ystore.specs.Views.{store_of}
use Rattle.ystore_tree.specs.Growing.{Inserts, Removes}
use Rattle.ystore_tree.specs.Ways.{around}
use Rattle.ylive_retell.proofs.StillLemmas.{on_err}
use Rattle.ylive_edit.proofs.PartLemmas as part
use Rattle.yspec.specs.edit.Editing.{Branch, with_branch}
use Rattle.yschema_model.proofs.CallerLemmas.{numbered}
use Rattle.ylive_edit.proofs.ExchangeLemmas.{comes_reads}
use Rattle.ylive_edit.proofs.ReadLemmas.{along_is, narrow_at, removed_reads, spent_on}
use Rattle.ylive_edit.proofs.parts.hang_part.Goals as goal

pub returns-in_err-new-clause-shows : goal.returns-in_err-new-clause-shows
returns-in_err-new-clause-shows c = λ tree steps f at.
    let s = schema_view.view c.args.schema.now in
    on_err c.from_residual.result
    (part.shows s (store_of c.args.counted.now) (store_of c.insert_part.new.counted) tree steps c.args.above f at c.insert_part.ensures.grows)

pub returns-then-node_count-most-clause-hangs : goal.returns-then-node_count-most-clause-hangs
returns-then-node_count-most-clause-hangs c = λ tree steps f at.
    let s = schema_view.view c.args.schema.now in
    let old = store_of c.args.counted.now in
    let mid = store_of c.insert_part.new.counted in
    let label = (view c.args.part).0 in
    let below = (view c.args.part).1 in
    let made = subst (λ had. Inserts c.args.above c.in_ok-new.new label below old mid had c.insert_part.new.numbers.items) c.new-numbers.ensures.items c.in_ok-new.ensures.ok in
    let many = c.if-node_count-most.true in
    let count = c.node_count.ensures in
    part.hangs_not s old mid tree steps c.args.above f c.in_ok-new.new label below c.insert_part.new.numbers.items made c.insert_part.ensures.fresh at c.requires.sorted c.args.most
    (store_of c.remove_nodes.new.counted) (omega (arith, many, count)) (subst (λ xs. Removes xs mid (store_of c.remove_nodes.new.counted)) c.deref.ensures.value c.remove_nodes.ensures.store)

pub change_row-requires : goal.change_row-requires
change_row-requires c =
    let s = schema_view.view c.args.schema.now in
    let old = store_of c.args.counted.now in
    let mid = store_of c.insert_part.new.counted in
    let label = (view c.args.part).0 in
    let below = (view c.args.part).1 in
    let made = subst (λ had. Inserts c.args.above c.in_ok-new.new label below old mid had c.insert_part.new.numbers.items) c.new-numbers.ensures.items c.in_ok-new.ensures.ok in
    let at = c.requires.at in
    part.adding s old mid at.tree at.steps c.args.above at.f c.in_ok-new.new label below c.insert_part.new.numbers.items made c.insert_part.ensures.fresh at.at c.requires.sorted
    c.deref-2.result.now c.deref-2.ensures.value c.id-of.result c.id-of.ensures

pub returns-clause-hangs : goal.returns-clause-hangs
returns-clause-hangs c = λ tree steps f at.
    let s = schema_view.view c.args.schema.now in
    let old = store_of c.args.counted.now in
    let mid = store_of c.insert_part.new.counted in
    let label = (view c.args.part).0 in
    let below = (view c.args.part).1 in
    let has = c.insert_part.new.numbers.items in
    let made = subst (λ had. Inserts c.args.above c.in_ok-new.new label below old mid had has) c.new-numbers.ensures.items c.in_ok-new.ensures.ok in
    let fresh = c.insert_part.ensures.fresh in
    let sorted = c.requires.sorted in
    let few = c.if-node_count-most.false in
    let count = c.node_count.ensures in
    let most = c.requires.most in
    let more_size = part.more_size s old mid tree steps c.args.above f c.in_ok-new.new label below has made fresh at sorted in
    let p = part.adding s old mid tree steps c.args.above f c.in_ok-new.new label below has made fresh at sorted c.deref-2.result.now c.deref-2.ensures.value c.id-of.result c.id-of.ensures in
    part.hangs s old mid tree steps c.args.above f c.in_ok-new.new label below has made fresh at sorted c.args.most (store_of c.change_row.new.counted) (omega (arith, few, count))
    (c.in_ok-change_row.ensures.keeps p)
    (c.in_ok-change_row.ensures.told p (part.told_mid s old mid tree steps c.args.above f c.in_ok-new.new label below has made fresh at sorted)
    (part.fresh_mid s old mid tree steps c.args.above f c.in_ok-new.new label below has made fresh at sorted) (omega (arith, few, count, most, more_size)))

pub returns-in_err-change_row-clause-shows : goal.returns-in_err-change_row-clause-shows
returns-in_err-change_row-clause-shows c = λ tree steps f at.
    let s = schema_view.view c.args.schema.now in
    let old = store_of c.args.counted.now in
    let mid = store_of c.insert_part.new.counted in
    let label = (view c.args.part).0 in
    let below = (view c.args.part).1 in
    let has = c.insert_part.new.numbers.items in
    let made = subst (λ had. Inserts c.args.above c.in_ok-new.new label below old mid had has) c.new-numbers.ensures.items c.in_ok-new.ensures.ok in
    let loose = node made.root (part.g s old mid tree steps c.args.above f c.in_ok-new.new label below has made c.insert_part.ensures.fresh at c.requires.sorted) end in
    on_err c.from_residual-in_err-change_row.result
    (part.shows_beside (store_of c.change_row.new.counted) tree (around at.way f) c.args.above loose at.is_tree
    (c.in_err-change_row.ensures.keeps_still (around at.way f) c.args.above loose
    (part.beside s old mid tree steps c.args.above f c.in_ok-new.new label below has made c.insert_part.ensures.fresh at c.requires.sorted)))

pub returns-in_err-new-clause-hangs : goal.returns-in_err-new-clause-hangs
returns-in_err-new-clause-hangs c = λ tree steps f at. part.if_err _ _ c.from_residual.result c.from_residual.ensures.1

pub returns-in_err-change_row-clause-hangs : goal.returns-in_err-change_row-clause-hangs
returns-in_err-change_row-clause-hangs c = λ tree steps f at. part.if_err _ _ c.from_residual-in_err-change_row.result c.from_residual-in_err-change_row.ensures.1

pub returns-then-node_count-most-clause-reads : goal.returns-then-node_count-most-clause-reads
returns-then-node_count-most-clause-reads c = λ tree steps f last at fits then.
    let grown = c.insert_part.ensures.grows.reads in
    let gone = removed_reads _ _ _ c.remove_nodes.ensures.store in
    omega (arith, grown, gone)

pub returns-clause-reads : goal.returns-clause-reads
returns-clause-reads c = λ tree steps f last at fits then.
    let s = schema_view.view c.args.schema.now in
    let old = store_of c.args.counted.now in
    let mid = store_of c.insert_part.new.counted in
    let label = (view c.args.part).0 in
    let below = (view c.args.part).1 in
    let has = c.insert_part.new.numbers.items in
    let made = subst (λ had. Inserts c.args.above c.in_ok-new.new label below old mid had has) c.new-numbers.ensures.items c.in_ok-new.ensures.ok in
    let fresh = c.insert_part.ensures.fresh in
    let sorted = c.requires.sorted in
    let few = c.if-node_count-most.false in
    let count = c.node_count.ensures in
    let most = c.requires.most in
    let more_size = part.more_size s old mid tree steps c.args.above f c.in_ok-new.new label below has made fresh at sorted in
    let added_size = part.added_size s old mid tree steps c.args.above f c.in_ok-new.new label below has made fresh at sorted in
    let p = part.adding s old mid tree steps c.args.above f c.in_ok-new.new label below has made fresh at sorted c.deref-2.result.now c.deref-2.ensures.value c.id-of.result c.id-of.ensures in
    let b = part.b s old mid tree steps c.args.above f c.in_ok-new.new label below has made fresh at sorted in
    let more = part.more s old mid tree steps c.args.above f c.in_ok-new.new label below has made fresh at sorted in
    let changed = part.branch_is s old mid tree steps c.args.above f c.in_ok-new.new label below has made fresh at sorted in
    let new = ap (λ (b : Branch). node b.label b.below end) (part.part_is s old mid tree steps c.args.above f c.in_ok-new.new label below has made fresh at sorted) in
    let now = along_is steps at.way (with_branch b) f more tree at.goes at.is_tree changed in
    let exchange = comes_reads s steps at.way f tree last at.is_tree at.goes p.loose more b new changed in
    spent_on _ _ _ _ _ c.insert_part.ensures.grows.reads exchange
    (c.in_ok-change_row.ensures.reads p (part.told_mid s old mid tree steps c.args.above f c.in_ok-new.new label below has made fresh at sorted)
    (part.fresh_mid s old mid tree steps c.args.above f c.in_ok-new.new label below has made fresh at sorted) (omega (arith, few, count, most, more_size))
    (narrow_at s at.way f more tree _ (numbered c.args.schema.now) at.is_tree now fits (then (omega (arith, few, count, added_size)))))

pub returns-clause-carries : goal.returns-clause-carries
returns-clause-carries c = λ tree steps f at _.
    let s = schema_view.view c.args.schema.now in
    let old = store_of c.args.counted.now in
    let mid = store_of c.insert_part.new.counted in
    let label = (view c.args.part).0 in
    let below = (view c.args.part).1 in
    let has = c.insert_part.new.numbers.items in
    let made = subst (λ had. Inserts c.args.above c.in_ok-new.new label below old mid had has) c.new-numbers.ensures.items c.in_ok-new.ensures.ok in
    let fresh = c.insert_part.ensures.fresh in
    let sorted = c.requires.sorted in
    let few = c.if-node_count-most.false in
    let count = c.node_count.ensures in
    let most = c.requires.most in
    let more_size = part.more_size s old mid tree steps c.args.above f c.in_ok-new.new label below has made fresh at sorted in
    let p = part.adding s old mid tree steps c.args.above f c.in_ok-new.new label below has made fresh at sorted c.deref-2.result.now c.deref-2.ensures.value c.id-of.result c.id-of.ensures in
    part.carries s old mid tree steps c.args.above f c.in_ok-new.new label below has made fresh at sorted (store_of c.change_row.new.counted)
    (c.in_ok-change_row.ensures.keeps p)
    (c.in_ok-change_row.ensures.told p (part.told_mid s old mid tree steps c.args.above f c.in_ok-new.new label below has made fresh at sorted)
    (part.fresh_mid s old mid tree steps c.args.above f c.in_ok-new.new label below has made fresh at sorted) (omega (arith, few, count, most, more_size)))

pub returns-then-node_count-most-clause-carries : goal.returns-then-node_count-most-clause-carries
returns-then-node_count-most-clause-carries c = λ tree steps f at yes. absurd (false≢true yes)

pub returns-in_err-new-clause-carries : goal.returns-in_err-new-clause-carries
returns-in_err-new-clause-carries c = λ tree steps f at. part.if_err _ _ c.from_residual.result c.from_residual.ensures.1

pub returns-in_err-change_row-clause-carries : goal.returns-in_err-change_row-clause-carries
returns-in_err-change_row-clause-carries c = λ tree steps f at. part.if_err _ _ c.from_residual-in_err-change_row.result c.from_residual-in_err-change_row.ensures.1
