use Rattle.std.proofs.Common.{arith, refl, subst, sym}
use Rattle.std.specs.Prelude.{IfOk, false, true}
use Rattle.std.proofs.lemmas.Bool.{le-ltb, lt-ltb}
use Rattle.yspec.specs.document.Fitting.{Fits}
use Rattle.yspec.specs.edit.Edit.{edit_at, instance_index}
use Rattle.yspec.specs.edit.Editing as spec
use Rattle.yschema_model.specs.View as schema_view
use Rattle.yinst_path.specs.Applying.{told_by}
use Rattle.yinst_path.specs.declared.edit.EditCode.TheVariants.{E5}
use Rattle.ystore.specs.Views.{store_of}
use Rattle.ystore_tree.proofs.PartLemmas.{one_read}
use Rattle.ylive_edit.specs.Locating.{target_at}
use Rattle.ylive_edit.proofs.AmendLemmas.{amends_fault, fails_on, holds_at, moved_is, part_of, past_is, shows_at}
use Rattle.ylive_edit.proofs.InstanceLemmas.{told_missing}
use Rattle.ylive_edit.proofs.LocatingLemmas.{at_read, hangs_at}
use Rattle.ylive_edit.proofs.PartLemmas.{wanting}
use Rattle.ylive_edit.proofs.PlaceLemmas.{place_found}
use Rattle.ylive_edit.proofs.ReadLemmas.{exchange_within, memory_within, moved_parts_are, refused_within}
use Rattle.ylive_edit.proofs.amending.move_node.Goals as goal

pub returns-then-count_of-position-clause-amends : goal.returns-then-count_of-position-clause-amends
returns-then-count_of-position-clause-amends c = λ tree above f at.
    let s = schema_view.view c.args.schema.now in
    let row = c.args.place.above in
    let old = store_of c.args.counted.now in
    let mid = store_of c.instance_meant.new.counted in
    let last = store_of c.count_of.new.self in
    let t = target_at s above f c.args.place.last in
    let meant = c.in-Ok.ensures.meets tree above f at in
    let at_mid = at_read s old mid tree above row f at c.in-Ok.ensures.kept in
    let at_last = at_read s mid last tree above row f at_mid (one_read mid last c.count_of.ensures.counted.store) in
    let past = past_is s mid row f c.args.place.last.id c.count_of.result c.args.position true (hangs_at s mid tree above row f at_mid) c.count_of.ensures.count
    (lt-ltb c.count_of.result c.args.position c.if-count_of-position.true) in
    amends_fault (Unit {0}) s last tree (spec.moved s tree c.args.position t) c.refused.result
    (told_missing E5 c.refused.result (spec.moved s tree c.args.position t) c.refused.ensures (moved_is s tree c.args.position t meant.0 true meant.1 past))
    (holds_at s last tree above row f at_last) (shows_at s last tree above row f at_last)

pub shift_part-requires : goal.shift_part-requires
shift_part-requires c =
    let s = schema_view.view c.args.schema.now in
    let id = c.args.place.last.id in
    let row = c.args.place.above in
    let old = store_of c.args.counted.now in
    let mid = store_of c.instance_meant.new.counted in
    let last = store_of c.count_of.new.self in
    let placed = store_of c.place_among-from.new.counted in
    let r = c.requires.at in
    let meant = c.in-Ok.ensures.meets r.tree r.steps r.f r.at in
    let step = meant.0 in
    let at_mid = at_read s old mid r.tree r.steps row r.f r.at c.in-Ok.ensures.kept in
    let at_last = at_read s mid last r.tree r.steps row r.f at_mid (one_read mid last c.count_of.ensures.counted.store) in (
      _,
      record {
        tree = r.tree;
        steps = r.steps;
        f = r.f;
        step = step;
        of = id;
        at = at_read s last placed r.tree r.steps row r.f at_last c.place_among-from.ensures.kept;
        part = part_of step id c.in-Ok.node r.f meant.3 meant.2;
        is_number = refl;
        is_index = sym (place_found s last r.tree r.steps row r.f at_last id (instance_index step) c.in-Ok.node meant.3 c.place_among-from.result c.place_among-from.ensures.place);
      },
    )

pub returns-in_ok-shift_part-in-Ok-clause-amends : goal.returns-in_ok-shift_part-in-Ok-clause-amends
returns-in_ok-shift_part-in-Ok-clause-amends c = λ tree above f at.
    let s = schema_view.view c.args.schema.now in
    let id = c.args.place.last.id in
    let row = c.args.place.above in
    let old = store_of c.args.counted.now in
    let mid = store_of c.instance_meant.new.counted in
    let last = store_of c.count_of.new.self in
    let placed = store_of c.place_among-from.new.counted in
    let t = target_at s above f c.args.place.last in
    let meant = c.in-Ok.ensures.meets tree above f at in
    let step = meant.0 in
    let at_mid = at_read s old mid tree above row f at c.in-Ok.ensures.kept in
    let at_last = at_read s mid last tree above row f at_mid (one_read mid last c.count_of.ensures.counted.store) in
    let past = past_is s mid row f id c.count_of.result c.args.position false (hangs_at s mid tree above row f at_mid) c.count_of.ensures.count
    (le-ltb c.count_of.result c.args.position c.if-count_of-position.false) in (
      edit_at above (spec.with_moved step c.args.position) tree,
      moved_is s tree c.args.position t step false meant.1 past,
      c.in_ok-shift_part-in-Ok.ensures.shifted tree above f step _ c.args.position
          (at_read s last placed tree above row f at_last c.place_among-from.ensures.kept)
          (part_of step id c.in-Ok.node f meant.3 meant.2)
          (sym (place_found s last tree above row f at_last id (instance_index step) c.in-Ok.node meant.3 c.place_among-from.result c.place_among-from.ensures.place))
          (sym c.saturating_sub-to.ensures),
    )

pub returns-in_err-shift_part-in-Ok-clause-amends : goal.returns-in_err-shift_part-in-Ok-clause-amends
returns-in_err-shift_part-in-Ok-clause-amends c = λ tree above f at.
    let s = schema_view.view c.args.schema.now in
    let row = c.args.place.above in
    let old = store_of c.args.counted.now in
    let mid = store_of c.instance_meant.new.counted in
    let last = store_of c.count_of.new.self in
    let placed = store_of c.place_among-from.new.counted in
    let at_mid = at_read s old mid tree above row f at c.in-Ok.ensures.kept in
    let at_last = at_read s mid last tree above row f at_mid (one_read mid last c.count_of.ensures.counted.store) in
    wanting s c.from_residual.result tree _ (store_of c.shift_part.new.counted) c.from_residual.ensures.1
    (c.in_err-shift_part-in-Ok.ensures.shows tree above f (at_read s last placed tree above row f at_last c.place_among-from.ensures.kept))

pub returns-in-Err-clause-amends : goal.returns-in-Err-clause-amends
returns-in-Err-clause-amends c = λ tree above f at.
    let s = schema_view.view c.args.schema.now in
    let row = c.args.place.above in
    let old = store_of c.args.counted.now in
    let mid = store_of c.instance_meant.new.counted in
    let at_mid = at_read s old mid tree above row f at c.in-Err.ensures.kept in
    amends_fault (Unit {0}) s mid tree (spec.moved s tree c.args.position (target_at s above f c.args.place.last)) c.in-Err.fault
    (fails_on (told_by c.in-Err.fault) (spec.last_meant s (target_at s above f c.args.place.last)) _ (c.in-Err.ensures.meets tree above f at))
    (holds_at s mid tree above row f at_mid) (shows_at s mid tree above row f at_mid)

pub returns-then-count_of-position-clause-reads : goal.returns-then-count_of-position-clause-reads
returns-then-count_of-position-clause-reads c = λ tree above f at fits given.
    let two = c.in-Ok.ensures.reads in
    let one = c.count_of.ensures.counted.store.counted in
    refused_within (Unit {0}) c.refused.result _ (store_of c.args.counted.now) (store_of c.count_of.new.self) (omega (arith, two, one))

pub returns-in_err-shift_part-in-Ok-clause-reads : goal.returns-in_err-shift_part-in-Ok-clause-reads
returns-in_err-shift_part-in-Ok-clause-reads c = λ tree above f at fits given.
    memory_within c.from_residual.result _ (store_of c.args.counted.now) (store_of c.shift_part.new.counted) c.from_residual.ensures.1

pub returns-in-Err-clause-reads : goal.returns-in-Err-clause-reads
returns-in-Err-clause-reads c = λ tree above f at fits given.
    let two = c.in-Err.ensures.reads in refused_within (Unit {0}) c.in-Err.fault _ (store_of c.args.counted.now) (store_of c.instance_meant.new.counted) (omega (arith, two))

pub returns-in_ok-shift_part-in-Ok-clause-reads : goal.returns-in_ok-shift_part-in-Ok-clause-reads
returns-in_ok-shift_part-in-Ok-clause-reads c = λ tree above f at fits given.
    let s = schema_view.view c.args.schema.now in
    let id = c.args.place.last.id in
    let row = c.args.place.above in
    let old = store_of c.args.counted.now in
    let mid = store_of c.instance_meant.new.counted in
    let last = store_of c.count_of.new.self in
    let placed = store_of c.place_among-from.new.counted in
    let t = target_at s above f c.args.place.last in
    let meant = c.in-Ok.ensures.meets tree above f at in
    let step = meant.0 in
    let at_mid = at_read s old mid tree above row f at c.in-Ok.ensures.kept in
    let at_last = at_read s mid last tree above row f at_mid (one_read mid last c.count_of.ensures.counted.store) in
    let past = past_is s mid row f id c.count_of.result c.args.position false (hangs_at s mid tree above row f at_mid) c.count_of.ensures.count
    (le-ltb c.count_of.result c.args.position c.if-count_of-position.false) in
    let two = c.in-Ok.ensures.reads in
    let one = c.count_of.ensures.counted.store.counted in
    let again = c.place_among-from.ensures.reads in
    let parts = exchange_within s tree _ _ (moved_parts_are s c.args.position t step meant.1 past) in
    let shifted = c.in_ok-shift_part-in-Ok.ensures.reads tree above f t.last step _ c.args.position
    (at_read s last placed tree above row f at_last c.place_among-from.ensures.kept)
    (part_of step id c.in-Ok.node f meant.3 meant.2)
    (sym (place_found s last tree above row f at_last id (instance_index step) c.in-Ok.node meant.3 c.place_among-from.result c.place_among-from.ensures.place))
    (sym c.saturating_sub-to.ensures) fits
    (subst (λ r. IfOk r (Fits s)) (moved_is s tree c.args.position t step false meant.1 past) given) in
    omega (arith, two, one, again, parts, shifted)
