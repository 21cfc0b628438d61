use Rattle.std.proofs.Common.{[], ap, refl, subst, sym, ◌∙◌}
use Rattle.yspec.specs.Forest.{end}
use Rattle.yschema_model.specs.View as schema_view
use Rattle.ystore.specs.Views.{store_of}
use Rattle.ystore_rows.specs.declared.row.Row.TheVariants.{Top}
use Rattle.ystore_tree.specs.Ways.{around}
use Rattle.ystore_tree.specs.declared.swapping.Change.TheVariants.{Take}
use Rattle.ylive_edit.specs.Places.{Swapping}
use Rattle.ylive_edit.proofs.PartLemmas as part
use Rattle.yspec.specs.document.Document.{instances_in}
use Rattle.yspec.specs.edit.Editing.{without}
use Rattle.yschema_model.specs.declared.node.SchemaId.{SchemaId}
use Rattle.yschema_model.proofs.CallerLemmas.{numbered}
use Rattle.ystore_tree.specs.Hanging.{tree_of}
use Rattle.ylive_edit.proofs.ExchangeLemmas.{goes_reads, without_is}
use Rattle.ylive_edit.proofs.ReadLemmas.{along_is, narrow_at, ok_then, spent_on}
use Rattle.ylive_edit.proofs.parts.take_part.Goals as goal

pub change_row-requires : goal.change_row-requires
change_row-requires c =
    let s = schema_view.view c.args.schema.now in
    let p = c.requires in
    subst (λ of. Swapping (record { above = c.args.above; schema = of; change = Take c.args.old c.args.place }) (store_of c.args.counted.now) c.args.old_numbers.now [])
    (part.by_number p.of c.args.of p.is_number)
    (part.taking s (store_of c.args.counted.now) p.tree p.steps c.args.above p.f p.step p.of c.args.old c.args.old_numbers.now p.at p.part c.args.place p.is_index)

pub returns-clause-taken : goal.returns-clause-taken
returns-clause-taken c = λ tree steps f step at is_part is_place.
    let s = schema_view.view c.args.schema.now in
    let old = store_of c.args.counted.now in
    let numbers = c.args.old_numbers.now in
    let p = part.taking s old tree steps c.args.above f step c.args.of c.args.old numbers at is_part c.args.place is_place in
    part.ok_both c.change_row.result
    (λ told keeps. part.taken s old tree steps c.args.above f step c.args.of c.args.old numbers at is_part (store_of c.change_row.new.counted) keeps told)
    (c.change_row.ensures.told p at.told tt (part.less_size s old tree steps c.args.above f step c.args.of c.args.old numbers at is_part))
    (c.change_row.ensures.keeps p)

pub returns-clause-shows : goal.returns-clause-shows
returns-clause-shows c = λ tree steps f at.
    part.err_then c.change_row.result
    (λ still. part.shows_beside (store_of c.change_row.new.counted) tree (around at.way f) Top end at.is_tree (still (around at.way f) Top end at.keeps))
    c.change_row.ensures.keeps_still

pub returns-clause-reads : goal.returns-clause-reads
returns-clause-reads c = λ tree steps f last step at is_part is_place fits fits_then.
    let s = schema_view.view c.args.schema.now in
    let old = store_of c.args.counted.now in
    let numbers = c.args.old_numbers.now in
    let p = part.taking s old tree steps c.args.above f step c.args.of c.args.old numbers at is_part c.args.place is_place in
    let less = part.less s old tree steps c.args.above f step c.args.of c.args.old numbers at is_part in
    let found = is_part.found in
    let before = found.frame.before in
    let same = ap (λ (i : SchemaId). i.0) found.is_schema ∙ is_part.is_schema in
    let count = ap (λ k. instances_in (tree_of before) k) (sym is_part.is_schema) ∙ found.is_index in
    let changed = without_is s steps at.way f tree last at.is_tree at.goes step before found.frame.after found.frame.label found.below found.is_row same count in
    let now = along_is steps at.way (without step) f less tree at.goes at.is_tree changed in
    let exchange = goes_reads s steps at.way f tree last at.is_tree at.goes step before found.frame.after found.frame.label found.below found.is_row same count in
    ok_then c.change_row.result (spent_on _ _ _ _ _ refl exchange)
    (c.change_row.ensures.reads p at.told tt (part.less_size s old tree steps c.args.above f step c.args.of c.args.old numbers at is_part)
    (narrow_at s at.way f less tree _ (numbered c.args.schema.now) at.is_tree now fits fits_then))
