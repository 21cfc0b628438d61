use Rattle.std.proofs.Common.{[], refl, subst}
use Rattle.yspec.specs.edit.Editing.{with_moved}
use Rattle.yschema_model.specs.View as schema_view
use Rattle.yschema_model.proofs.CallerLemmas.{numbered}
use Rattle.ystore.specs.Views.{store_of}
use Rattle.ystore_rows.specs.declared.row.Row.TheVariants.{Top}
use Rattle.yspec.specs.Forest.{end}
use Rattle.ystore_tree.specs.Ways.{around}
use Rattle.ystore_tree.specs.declared.swapping.Change.TheVariants.{Move}
use Rattle.ylive_edit.specs.Places.{Swapping}
use Rattle.ylive_edit.proofs.ExchangeLemmas.{stays_reads}
use Rattle.ylive_edit.proofs.PartLemmas as part
use Rattle.ylive_edit.proofs.ReadLemmas.{along_is, narrow_at, ok_then, spent_on}
use Rattle.ylive_edit.proofs.parts.shift_part.Goals as goal

pub change_row-requires : goal.change_row-requires
change_row-requires c =
    let s = schema_view.view c.args.schema.now in
    let p = c.requires.1 in
    subst (λ of. Swapping (record { above = c.args.above; schema = of; change = Move c.args.node c.args.from c.args.to }) (store_of c.args.counted.now) [] [])
    (part.by_number p.of c.args.of p.is_number)
    (part.moving s (store_of c.args.counted.now) p.tree p.steps c.args.above p.f p.step p.of c.args.node c.requires.0 p.at p.part c.args.from c.args.to p.is_index)

pub returns-clause-shifted : goal.returns-clause-shifted
returns-clause-shifted c = λ tree steps f step numbers position at is_part is_from is_to.
    let s = schema_view.view c.args.schema.now in
    let old = store_of c.args.counted.now in
    let p = part.moving s old tree steps c.args.above f step c.args.of c.args.node numbers at is_part c.args.from c.args.to is_from in
    part.ok_both c.change_row.result
    (λ told keeps. part.moved s old tree steps c.args.above f step c.args.of c.args.node numbers at is_part c.args.to position is_to (store_of c.change_row.new.counted) keeps told)
    (c.change_row.ensures.told p at.told tt (part.elsewhere_size s old tree steps c.args.above f step c.args.of c.args.node numbers at is_part c.args.to))
    (c.change_row.ensures.keeps p)

pub returns-clause-shows : goal.returns-clause-shows
returns-clause-shows c = λ tree steps f at.
    part.err_then c.change_row.result
    (λ still. part.shows_beside (store_of c.change_row.new.counted) tree (around at.way f) Top end at.is_tree (still (around at.way f) Top end at.keeps))
    c.change_row.ensures.keeps_still

pub returns-clause-reads : goal.returns-clause-reads
returns-clause-reads c = λ tree steps f last step numbers position at is_part is_from is_to fits fits_then.
    let s = schema_view.view c.args.schema.now in
    let old = store_of c.args.counted.now in
    let p = part.moving s old tree steps c.args.above f step c.args.of c.args.node numbers at is_part c.args.from c.args.to is_from in
    let g = part.elsewhere s old tree steps c.args.above f step c.args.of c.args.node numbers at is_part c.args.to in
    let changed = part.elsewhere_is s old tree steps c.args.above f step c.args.of c.args.node numbers at is_part c.args.to position is_to in
    let now = along_is steps at.way (with_moved step position) f g tree at.goes at.is_tree changed in
    let exchange = stays_reads s steps at.way f tree last at.is_tree at.goes step position g changed in
    ok_then c.change_row.result (spent_on _ _ _ _ _ refl exchange)
    (c.change_row.ensures.reads p at.told tt (part.elsewhere_size s old tree steps c.args.above f step c.args.of c.args.node numbers at is_part c.args.to)
    (narrow_at s at.way f g tree _ (numbered c.args.schema.now) at.is_tree now fits fits_then))
