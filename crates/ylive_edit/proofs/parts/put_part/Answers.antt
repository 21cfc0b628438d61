use Rattle.std.proofs.Common.{ap, arith, refl, subst, sym, ◌∙◌}
use Rattle.yspec.specs.Forest.{end, node}
use Rattle.yschema_model.specs.View as schema_view
use Rattle.yinst_tree.specs.View.{view}
use Rattle.ystore.specs.Views.{store_of}
use Rattle.ystore_tree.specs.Growing.{Inserts, Removes}
use Rattle.ystore_tree.specs.Ways.{around}
use Rattle.ylive_edit.proofs.PartLemmas as part
use Rattle.yspec.specs.document.Document.{instances_in}
use Rattle.yspec.specs.edit.Editing.{Branch, with_instead}
use Rattle.yschema_model.specs.declared.node.SchemaId.{SchemaId}
use Rattle.yschema_model.proofs.CallerLemmas.{numbered}
use Rattle.ystore_tree.specs.Hanging.{tree_of}
use Rattle.ylive_edit.proofs.ExchangeLemmas.{gives_reads}
use Rattle.ylive_edit.proofs.ReadLemmas.{along_is, fits_within, memory_within, narrow_at, refused_within, removed_reads, spent_on}
use Rattle.yspec.specs.edit.Edit.{edit_at}
use Rattle.ylive_edit.proofs.parts.put_part.Goals as goal

pub returns-in_err-new-clause-amends : goal.returns-in_err-new-clause-amends
returns-in_err-new-clause-amends c = λ tree steps f step schema at is same.
    let s = schema_view.view c.args.schema.now in
    part.wanting s c.from_residual.result tree _ (store_of c.insert_part.new.counted) c.from_residual.ensures.1
    (part.shows s (store_of c.args.counted.now) (store_of c.insert_part.new.counted) tree steps c.args.above f at c.insert_part.ensures.grows)

pub returns-then-saturating_sub-gt-DOCUMENT_LIMIT-clause-amends : goal.returns-then-saturating_sub-gt-DOCUMENT_LIMIT-clause-amends
returns-then-saturating_sub-gt-DOCUMENT_LIMIT-clause-amends c = λ tree steps f step schema at is same.
    let s = schema_view.view c.args.schema.now in
    let old = store_of c.args.counted.now in
    let mid = store_of c.insert_part.new.counted in
    let label = (view c.args.part).0 in
    let below = (view c.args.part).1 in
    let made = subst (λ had. Inserts c.args.above c.in_ok-new.new label below old mid had c.insert_part.new.numbers.items) c.new-numbers.ensures.items c.in_ok-new.ensures.ok in
    let many = c.if-saturating_sub-gt-DOCUMENT_LIMIT.true in
    let count = c.node_count.ensures in
    let less = c.saturating_sub.ensures in
    part.put_over s old mid tree steps c.args.above f c.in_ok-new.new label below c.insert_part.new.numbers.items made c.insert_part.ensures.fresh at c.requires.sorted step schema c.args.old
    c.args.old_numbers.now is (Unit {0}) (store_of c.remove_nodes.new.counted) c.refused.result (omega (arith, many, less, count))
    (subst (λ xs. Removes xs mid (store_of c.remove_nodes.new.counted)) c.deref.ensures.value c.remove_nodes.ensures.store) c.refused.ensures

pub change_row-requires : goal.change_row-requires
change_row-requires c =
    let s = schema_view.view c.args.schema.now in
    let old = store_of c.args.counted.now in
    let mid = store_of c.insert_part.new.counted in
    let label = (view c.args.part).0 in
    let below = (view c.args.part).1 in
    let made = subst (λ had. Inserts c.args.above c.in_ok-new.new label below old mid had c.insert_part.new.numbers.items) c.new-numbers.ensures.items c.in_ok-new.ensures.ok in
    let p = c.requires.at.1 in
    part.putting s old mid p.tree p.steps c.args.above p.f c.in_ok-new.new label below c.insert_part.new.numbers.items made c.insert_part.ensures.fresh p.at c.requires.sorted
    p.step p.of c.args.old c.args.old_numbers.now p.part c.deref-2.result.now c.deref-2.ensures.value c.id-of.result c.id-of.ensures (sym p.is_number)

pub returns-clause-amends : goal.returns-clause-amends
returns-clause-amends c = λ tree steps f step schema at is same.
    let s = schema_view.view c.args.schema.now in
    let old = store_of c.args.counted.now in
    let mid = store_of c.insert_part.new.counted in
    let label = (view c.args.part).0 in
    let below = (view c.args.part).1 in
    let has = c.insert_part.new.numbers.items in
    let made = subst (λ had. Inserts c.args.above c.in_ok-new.new label below old mid had has) c.new-numbers.ensures.items c.in_ok-new.ensures.ok in
    let fresh = c.insert_part.ensures.fresh in
    let sorted = c.requires.sorted in
    let few = c.if-saturating_sub-gt-DOCUMENT_LIMIT.false in
    let count = c.node_count.ensures in
    let less = c.saturating_sub.ensures in
    let p = part.putting s old mid tree steps c.args.above f c.in_ok-new.new label below has made fresh at sorted step schema c.args.old c.args.old_numbers.now is c.deref-2.result.now c.deref-2.ensures.value c.id-of.result c.id-of.ensures same in
    let other_size = part.other_size s old mid tree steps c.args.above f c.in_ok-new.new label below has made fresh at sorted step schema c.args.old c.args.old_numbers.now is in
    part.put_part s old mid tree steps c.args.above f c.in_ok-new.new label below has made fresh at sorted step schema c.args.old c.args.old_numbers.now is (store_of c.change_row.new.counted)
    (omega (arith, few, less, count)) (c.in_ok-change_row.ensures.keeps p)
    (c.in_ok-change_row.ensures.told p (part.told_mid s old mid tree steps c.args.above f c.in_ok-new.new label below has made fresh at sorted)
    (part.fresh_mid s old mid tree steps c.args.above f c.in_ok-new.new label below has made fresh at sorted) (omega (arith, few, less, count, other_size)))

pub returns-in_err-change_row-clause-amends : goal.returns-in_err-change_row-clause-amends
returns-in_err-change_row-clause-amends c = λ tree steps f step schema at is same.
    let s = schema_view.view c.args.schema.now in
    let old = store_of c.args.counted.now in
    let mid = store_of c.insert_part.new.counted in
    let label = (view c.args.part).0 in
    let below = (view c.args.part).1 in
    let has = c.insert_part.new.numbers.items in
    let made = subst (λ had. Inserts c.args.above c.in_ok-new.new label below old mid had has) c.new-numbers.ensures.items c.in_ok-new.ensures.ok in
    let loose = node made.root (part.g s old mid tree steps c.args.above f c.in_ok-new.new label below has made c.insert_part.ensures.fresh at c.requires.sorted) end in
    part.wanting s c.from_residual-in_err-change_row.result tree _ (store_of c.change_row.new.counted) c.from_residual-in_err-change_row.ensures.1
    (part.shows_beside (store_of c.change_row.new.counted) tree (around at.way f) c.args.above loose at.is_tree
    (c.in_err-change_row.ensures.keeps_still (around at.way f) c.args.above loose
    (part.beside s old mid tree steps c.args.above f c.in_ok-new.new label below has made c.insert_part.ensures.fresh at c.requires.sorted)))

pub returns-in_err-new-clause-reads : goal.returns-in_err-new-clause-reads
returns-in_err-new-clause-reads c = λ tree steps f last step schema at is same fits given. memory_within c.from_residual.result _ (store_of c.args.counted.now) (store_of c.insert_part.new.counted) c.from_residual.ensures.1

pub returns-then-saturating_sub-gt-DOCUMENT_LIMIT-clause-reads : goal.returns-then-saturating_sub-gt-DOCUMENT_LIMIT-clause-reads
returns-then-saturating_sub-gt-DOCUMENT_LIMIT-clause-reads c = λ tree steps f last step schema at is same fits given.
    let grown = c.insert_part.ensures.grows.reads in
    let gone = removed_reads _ _ _ c.remove_nodes.ensures.store in
    refused_within (Unit {0}) c.refused.result _ (store_of c.args.counted.now) (store_of c.remove_nodes.new.counted) (omega (arith, grown, gone))

pub returns-in_err-change_row-clause-reads : goal.returns-in_err-change_row-clause-reads
returns-in_err-change_row-clause-reads c = λ tree steps f last step schema at is same fits given.
    memory_within c.from_residual-in_err-change_row.result _ (store_of c.args.counted.now) (store_of c.change_row.new.counted) c.from_residual-in_err-change_row.ensures.1

pub returns-clause-reads : goal.returns-clause-reads
returns-clause-reads c = λ tree steps f last step schema at is same fits given.
    let s = schema_view.view c.args.schema.now in
    let old = store_of c.args.counted.now in
    let mid = store_of c.insert_part.new.counted in
    let label = (view c.args.part).0 in
    let below = (view c.args.part).1 in
    let has = c.insert_part.new.numbers.items in
    let made = subst (λ had. Inserts c.args.above c.in_ok-new.new label below old mid had has) c.new-numbers.ensures.items c.in_ok-new.ensures.ok in
    let fresh = c.insert_part.ensures.fresh in
    let sorted = c.requires.sorted in
    let few = c.if-saturating_sub-gt-DOCUMENT_LIMIT.false in
    let count = c.node_count.ensures in
    let less = c.saturating_sub.ensures in
    let p = part.putting s old mid tree steps c.args.above f c.in_ok-new.new label below has made fresh at sorted step schema c.args.old c.args.old_numbers.now is c.deref-2.result.now c.deref-2.ensures.value c.id-of.result c.id-of.ensures same in
    let other_size = part.other_size s old mid tree steps c.args.above f c.in_ok-new.new label below has made fresh at sorted step schema c.args.old c.args.old_numbers.now is in
    let put_size = part.put_size s old mid tree steps c.args.above f c.in_ok-new.new label below has made fresh at sorted step schema c.args.old c.args.old_numbers.now is in
    let other = part.other s old mid tree steps c.args.above f c.in_ok-new.new label below has made fresh at sorted step schema c.args.old c.args.old_numbers.now is in
    let b = part.b s old mid tree steps c.args.above f c.in_ok-new.new label below has made fresh at sorted in
    let changed = part.instead_is s old mid tree steps c.args.above f c.in_ok-new.new label below has made fresh at sorted step schema c.args.old c.args.old_numbers.now is in
    let new = ap (λ (b : Branch). node b.label b.below end) (part.part_is s old mid tree steps c.args.above f c.in_ok-new.new label below has made fresh at sorted) in
    let found = is.found in
    let number = ap (λ (i : SchemaId). i.0) found.is_schema ∙ is.is_schema in
    let index = ap (λ k. instances_in (tree_of found.frame.before) k) (sym is.is_schema) ∙ found.is_index in
    let now = along_is steps at.way (with_instead step b) f other tree at.goes at.is_tree changed in
    let exchange = gives_reads s steps at.way f tree last at.is_tree at.goes step found.frame.before found.frame.after found.frame.label found.below found.is_row number index p.loose other b new changed in
    spent_on _ _ _ _ _ c.insert_part.ensures.grows.reads exchange
    (c.in_ok-change_row.ensures.reads p (part.told_mid s old mid tree steps c.args.above f c.in_ok-new.new label below has made fresh at sorted)
    (part.fresh_mid s old mid tree steps c.args.above f c.in_ok-new.new label below has made fresh at sorted) (omega (arith, few, less, count, other_size))
    (narrow_at s at.way f other tree _ (numbered c.args.schema.now) at.is_tree now fits
    (fits_within s (edit_at steps (with_instead step b) tree) given (omega (arith, few, less, count, other_size, put_size)))))
