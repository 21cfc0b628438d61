use Rattle.std.proofs.Common.{ap, arith, refl, subst, sym, ◌∙◌}
use Rattle.yspec.specs.edit.Edit.{edit_at, instance_index}
use Rattle.yspec.specs.edit.Editing as spec
use Rattle.yschema_model.specs.View as schema_view
use Rattle.yinst_path.specs.Applying.{told_by}
use Rattle.ystore.specs.Views.{store_of}
use Rattle.ystore_tree.proofs.PartLemmas.{reads_on}
use Rattle.ylive_edit.proofs.PlaceLemmas.{place_found}
use Rattle.ylive_edit.specs.Locating.{target_at}
use Rattle.ylive_edit.proofs.AmendLemmas.{amends_fault, fails_on, found_there, holds_at, part_at, removed_is, shows_at}
use Rattle.ylive_edit.proofs.LocatingLemmas.{at_read}
use Rattle.ylive_edit.proofs.PartLemmas.{wanting}
use Rattle.std.specs.Prelude.{IfOk}
use Rattle.yspec.specs.Forest.{end, node}
use Rattle.yspec.specs.document.Document.{instances_in}
use Rattle.yspec.specs.document.Fitting.{Fits}
use Rattle.yschema_model.specs.declared.node.SchemaId.{SchemaId}
use Rattle.ystore_tree.specs.Hanging.{tree_of}
use Rattle.ylive_edit.specs.Reads.{parts_reads}
use Rattle.ylive_edit.proofs.ExchangeLemmas.{meant_is}
use Rattle.ylive_edit.proofs.ReadLemmas.{memory_within, part_light, refused_within, removed_parts_are}
use Rattle.ylive_edit.proofs.amending.remove.Goals as goal

pub returns-in_err-numbers-in-Ok-clause-amends : goal.returns-in_err-numbers-in-Ok-clause-amends
returns-in_err-numbers-in-Ok-clause-amends c = λ tree above f at.
    let old = store_of c.args.counted.now in
    let mid = store_of c.instance_meant.new.counted in
    let last = store_of c.numbers_of.new.counted in
    let s = schema_view.view c.args.schema.now in
    wanting s c.from_residual.result tree _ last c.from_residual.ensures.1
    (shows_at s last tree above c.args.place.above f (at_read s old last tree above c.args.place.above f at (reads_on old mid last c.in-Ok.ensures.kept c.numbers_of.ensures.kept)))

pub take_part-requires : goal.take_part-requires
take_part-requires c =
    let s = schema_view.view c.args.schema.now in
    let id = c.args.place.last.id in
    let row = c.args.place.above in
    let old = store_of c.args.counted.now in
    let mid = store_of c.instance_meant.new.counted in
    let last = store_of c.numbers_of.new.counted in
    let r = c.requires.at in
    let meant = c.in-Ok.ensures.meets r.tree r.steps r.f r.at in
    let step = meant.0 in
    let at_mid = at_read s old mid r.tree r.steps row r.f r.at c.in-Ok.ensures.kept in
    let at_last = at_read s mid last r.tree r.steps row r.f at_mid c.numbers_of.ensures.kept in
    record {
      tree = r.tree;
      steps = r.steps;
      f = r.f;
      step = step;
      of = id;
      at = at_read s last (store_of c.place_among-before.new.counted) r.tree r.steps row r.f at_last c.place_among-before.ensures.kept;
      part = part_at s mid r.tree r.steps row r.f step id c.in-Ok.node _ at_mid meant.3 meant.2
          (λ above n below same stands fits. c.deref.ensures.value ∙ c.in_ok-numbers-in-Ok.ensures.numbers above n below same stands fits);
      is_number = refl;
      is_index = sym (place_found s last r.tree r.steps row r.f at_last id (instance_index step) c.in-Ok.node meant.3 c.place_among-before.result c.place_among-before.ensures.place);
    }

pub returns-in_ok-take_part-in-Ok-clause-amends : goal.returns-in_ok-take_part-in-Ok-clause-amends
returns-in_ok-take_part-in-Ok-clause-amends c = λ tree above f at.
    let s = schema_view.view c.args.schema.now in
    let id = c.args.place.last.id in
    let row = c.args.place.above in
    let old = store_of c.args.counted.now in
    let mid = store_of c.instance_meant.new.counted in
    let last = store_of c.numbers_of.new.counted in
    let meant = c.in-Ok.ensures.meets tree above f at in
    let step = meant.0 in
    let at_mid = at_read s old mid tree above row f at c.in-Ok.ensures.kept in
    let at_last = at_read s mid last tree above row f at_mid c.numbers_of.ensures.kept in
    let part = part_at s mid tree above row f step id c.in-Ok.node _ at_mid meant.3 meant.2
    (λ r n below same stands fits. c.deref.ensures.value ∙ c.in_ok-numbers-in-Ok.ensures.numbers r n below same stands fits) in (
      edit_at above (spec.without step) tree,
      removed_is s tree (target_at s above f c.args.place.last) step meant.1,
      c.in_ok-take_part-in-Ok.ensures.taken tree above f step
          (at_read s last (store_of c.place_among-before.new.counted) tree above row f at_last c.place_among-before.ensures.kept) part
          (sym (place_found s last tree above row f at_last id (instance_index step) c.in-Ok.node meant.3 c.place_among-before.result c.place_among-before.ensures.place)),
    )

pub returns-in_err-take_part-in-Ok-clause-amends : goal.returns-in_err-take_part-in-Ok-clause-amends
returns-in_err-take_part-in-Ok-clause-amends c = λ tree above f at.
    let s = schema_view.view c.args.schema.now in
    let row = c.args.place.above in
    let old = store_of c.args.counted.now in
    let mid = store_of c.instance_meant.new.counted in
    let last = store_of c.numbers_of.new.counted in
    let at_mid = at_read s old mid tree above row f at c.in-Ok.ensures.kept in
    wanting s c.from_residual-in_err-take_part-in-Ok.result tree _ (store_of c.take_part.new.counted) c.from_residual-in_err-take_part-in-Ok.ensures.1
    (c.in_err-take_part-in-Ok.ensures.shows tree above f
    (at_read s last (store_of c.place_among-before.new.counted) tree above row f (at_read s mid last tree above row f at_mid c.numbers_of.ensures.kept)
    c.place_among-before.ensures.kept))

pub returns-in-Err-clause-amends : goal.returns-in-Err-clause-amends
returns-in-Err-clause-amends c = λ tree above f at.
    let s = schema_view.view c.args.schema.now in
    let row = c.args.place.above in
    let old = store_of c.args.counted.now in
    let mid = store_of c.instance_meant.new.counted in
    let at_mid = at_read s old mid tree above row f at c.in-Err.ensures.kept in
    amends_fault (Unit {0}) s mid tree (spec.removed s tree (target_at s above f c.args.place.last)) c.in-Err.fault
    (fails_on (told_by c.in-Err.fault) (spec.last_meant s (target_at s above f c.args.place.last)) _ (c.in-Err.ensures.meets tree above f at))
    (holds_at s mid tree above row f at_mid) (shows_at s mid tree above row f at_mid)

pub returns-in_err-numbers-in-Ok-clause-reads : goal.returns-in_err-numbers-in-Ok-clause-reads
returns-in_err-numbers-in-Ok-clause-reads c = λ tree above f at fits given. memory_within c.from_residual.result _ (store_of c.args.counted.now) (store_of c.numbers_of.new.counted) c.from_residual.ensures.1

pub returns-in_err-take_part-in-Ok-clause-reads : goal.returns-in_err-take_part-in-Ok-clause-reads
returns-in_err-take_part-in-Ok-clause-reads c = λ tree above f at fits given.
    memory_within c.from_residual-in_err-take_part-in-Ok.result _ (store_of c.args.counted.now) (store_of c.take_part.new.counted) c.from_residual-in_err-take_part-in-Ok.ensures.1

pub returns-in-Err-clause-reads : goal.returns-in-Err-clause-reads
returns-in-Err-clause-reads c = λ tree above f at fits given.
    let two = c.in-Err.ensures.reads in refused_within (Unit {0}) c.in-Err.fault _ (store_of c.args.counted.now) (store_of c.instance_meant.new.counted) (omega (arith, two))

pub returns-in_ok-take_part-in-Ok-clause-reads : goal.returns-in_ok-take_part-in-Ok-clause-reads
returns-in_ok-take_part-in-Ok-clause-reads c = λ tree above f at fits given.
    let s = schema_view.view c.args.schema.now in
    let id = c.args.place.last.id in
    let row = c.args.place.above in
    let old = store_of c.args.counted.now in
    let mid = store_of c.instance_meant.new.counted in
    let last = store_of c.numbers_of.new.counted in
    let placed = store_of c.place_among-before.new.counted in
    let t = target_at s above f c.args.place.last in
    let meant = c.in-Ok.ensures.meets tree above f at in
    let step = meant.0 in
    let found = meant.3 in
    let at_mid = at_read s old mid tree above row f at c.in-Ok.ensures.kept in
    let at_last = at_read s mid last tree above row f at_mid c.numbers_of.ensures.kept in
    let part = part_at s mid tree above row f step id c.in-Ok.node _ at_mid found meant.2
    (λ r n below same stands fits. c.deref.ensures.value ∙ c.in_ok-numbers-in-Ok.ensures.numbers r n below same stands fits) in
    let there = found_there s mid tree above row f step id c.in-Ok.node at_mid found in
    let two = c.in-Ok.ensures.reads in
    let numbers = c.in_ok-numbers-in-Ok.ensures.reads row found.frame.label found.below found.is_id there.0 there.1 in
    let one = c.place_among-before.ensures.reads in
    let old_is = meant_is step found.frame.before found.frame.after found.frame.label found.below f found.is_row (ap (λ (i : SchemaId). i.0) found.is_schema ∙ meant.2)
    (ap (λ k. instances_in (tree_of found.frame.before) k) (sym meant.2) ∙ found.is_index) in
    let light = part_light s (node found.frame.label found.below end) _ old_is in
    let parts = ap (parts_reads s tree) (removed_parts_are s t step meant.1) in
    let taken = c.in_ok-take_part-in-Ok.ensures.reads tree above f t.last step
    (at_read s last placed tree above row f at_last c.place_among-before.ensures.kept) part
    (sym (place_found s last tree above row f at_last id (instance_index step) c.in-Ok.node found c.place_among-before.result c.place_among-before.ensures.place)) fits
    (subst (λ r. IfOk r (Fits s)) (removed_is s tree t step meant.1) given) in
    omega (arith, two, numbers, one, light, parts, taken)
