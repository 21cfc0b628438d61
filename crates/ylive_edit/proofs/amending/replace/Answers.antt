use Rattle.std.proofs.Common.{ap, arith, refl, subst, sym, ◌∙◌}
use Rattle.yspec.specs.Results.{◌>>=◌}
use Rattle.yspec.specs.edit.Edit.{edit_at, instance_index}
use Rattle.yspec.specs.edit.Editing as spec
use Rattle.yschema_model.specs.View as schema_view
use Rattle.yschema_model.proofs.CallerLemmas.{numbered}
use Rattle.yinst_path.specs.Applying.{told_by}
use Rattle.ystore.specs.Views.{store_of}
use Rattle.yinst.proofs.LocatingLemmas.{number_is}
use Rattle.ystore_tree.proofs.PartLemmas.{reads_on}
use Rattle.ylive_edit.specs.Locating.{target_at}
use Rattle.ylive_edit.specs.Places.{Amends, branch_of}
use Rattle.ylive_edit.proofs.AmendLemmas.{amends_fault, fails_on, fails_same, found_there, holds_at, part_at, replaced_is, shows_at}
use Rattle.ylive_edit.proofs.LocatingLemmas.{at_read}
use Rattle.ylive_edit.proofs.OrderLemmas.{value_in_order}
use Rattle.ylive_edit.proofs.PartLemmas.{wanting}
use Rattle.std.specs.Prelude.{IfOk}
use Rattle.yspec.specs.Forest.{end, node}
use Rattle.yspec.specs.document.Document.{instances_in}
use Rattle.yspec.specs.document.Fitting.{Fits}
use Rattle.yschema_model.specs.declared.node.SchemaId.{SchemaId}
use Rattle.yspec_reach.specs.Parts.{gives_way}
use Rattle.ystore_tree.specs.Hanging.{tree_of}
use Rattle.ylive_edit.specs.Reads.{exchange_reads, parts_reads}
use Rattle.ylive_edit.proofs.ExchangeLemmas.{meant_is}
use Rattle.ylive_edit.proofs.ReadLemmas.{memory_within, part_light, refused_within, replaced_parts_are, spent_numbers, within_more}
use Rattle.ylive_edit.proofs.amending.replace.Goals as goal

pub returns-in_err-numbers-in-Ok-part-clause-amends : goal.returns-in_err-numbers-in-Ok-part-clause-amends
returns-in_err-numbers-in-Ok-part-clause-amends c = λ tree above f at.
    let old = store_of c.args.counted.now in
    let mid = store_of c.instance_meant.new.counted in
    let last = store_of c.numbers_of.new.counted in
    let s = schema_view.view c.args.schema.now in
    wanting s c.from_residual.result tree _ last c.from_residual.ensures.1
    (shows_at s last tree above c.args.place.above f (at_read s old last tree above c.args.place.above f at (reads_on old mid last c.in-Ok.ensures.kept c.numbers_of.ensures.kept)))

pub returns-in_ok-numbers-in-Ok-part-clause-amends : goal.returns-in_ok-numbers-in-Ok-part-clause-amends
returns-in_ok-numbers-in-Ok-part-clause-amends c = λ tree above f at.
    let s = schema_view.view c.args.schema.now in
    let id = c.args.place.last.id in
    let row = c.args.place.above in
    let old = store_of c.args.counted.now in
    let mid = store_of c.instance_meant.new.counted in
    let last = store_of c.numbers_of.new.counted in
    let t = target_at s above f c.args.place.last in
    let meant = c.in-Ok.ensures.meets tree above f at in
    let step = meant.0 in
    let at_mid = at_read s old mid tree above row f at c.in-Ok.ensures.kept in
    let part = part_at s mid tree above row f step id c.in-Ok.node _ at_mid meant.3 meant.2
    (λ r n below same stands fits. c.deref.ensures.value ∙ c.in_ok-numbers-in-Ok-part.ensures.numbers r n below same stands fits) in
    let order = value_in_order s id.0 c.args.value.now (branch_of c.in-Ok-part.part) (numbered c.args.schema.now) c.in-Ok-part.ensures in
    let value = ap (λ k. spec.branch_of s k c.args.value.now) (number_is s id.0) ∙ c.in-Ok-part.ensures in
    subst (λ a. Amends s tree a (store_of c.put_part.new.counted) c.put_part.result)
    (sym (replaced_is s tree c.args.value.now t step (branch_of c.in-Ok-part.part) meant.1 value))
    (c.put_part.ensures.amends tree above f step id (at_read s mid last tree above row f at_mid c.numbers_of.ensures.kept) part order.0)

pub returns-in-Err-part-clause-amends : goal.returns-in-Err-part-clause-amends
returns-in-Err-part-clause-amends c = λ tree above f at.
    let s = schema_view.view c.args.schema.now in
    let row = c.args.place.above in
    let old = store_of c.args.counted.now in
    let mid = store_of c.instance_meant.new.counted in
    let t = target_at s above f c.args.place.last in
    let meant = c.in-Ok.ensures.meets tree above f at in
    let step = meant.0 in
    let at_mid = at_read s old mid tree above row f at c.in-Ok.ensures.kept in
    let told = told_by c.in-Err-part.fault in
    let value = spec.branch_of s t.last.schema_node.number c.args.value.now in
    let fails = fails_same told value (spec.branch_of s c.args.place.last.id.0 c.args.value.now)
    (ap (λ k. spec.branch_of s k c.args.value.now) (number_is s c.args.place.last.id.0)) c.in-Err-part.ensures in
    amends_fault (Unit {0}) s mid tree (spec.replaced s tree c.args.value.now t) c.in-Err-part.fault
    (fails_same told (spec.replaced s tree c.args.value.now t) _
    (ap (λ a. a >>= (λ st. value >>= (λ x. spec.within_limit (edit_at t.above (spec.with_instead st x) tree)))) meant.1)
    (fails_on told value (λ x. spec.within_limit (edit_at t.above (spec.with_instead step x) tree)) fails))
    (holds_at s mid tree above row f at_mid) (shows_at s mid tree above row f at_mid)

pub returns-in-Err-clause-amends : goal.returns-in-Err-clause-amends
returns-in-Err-clause-amends c = λ tree above f at.
    let s = schema_view.view c.args.schema.now in
    let row = c.args.place.above in
    let old = store_of c.args.counted.now in
    let mid = store_of c.instance_meant.new.counted in
    let at_mid = at_read s old mid tree above row f at c.in-Err.ensures.kept in
    amends_fault (Unit {0}) s mid tree (spec.replaced s tree c.args.value.now (target_at s above f c.args.place.last)) c.in-Err.fault
    (fails_on (told_by c.in-Err.fault) (spec.last_meant s (target_at s above f c.args.place.last)) _ (c.in-Err.ensures.meets tree above f at))
    (holds_at s mid tree above row f at_mid) (shows_at s mid tree above row f at_mid)

pub put_part-requires-clause-at : goal.put_part-requires-clause-at
put_part-requires-clause-at c =
    let s = schema_view.view c.args.schema.now in
    let id = c.args.place.last.id in
    let row = c.args.place.above in
    let old = store_of c.args.counted.now in
    let mid = store_of c.instance_meant.new.counted in
    let last = store_of c.numbers_of.new.counted in
    let r = c.requires.at in
    let meant = c.in-Ok.ensures.meets r.tree r.steps r.f r.at in
    let step = meant.0 in
    let at_mid = at_read s old mid r.tree r.steps row r.f r.at c.in-Ok.ensures.kept in
    let order = value_in_order s id.0 c.args.value.now (branch_of c.in-Ok-part.part) (numbered c.args.schema.now) c.in-Ok-part.ensures in (
      instance_index step,
      record {
        tree = r.tree;
        steps = r.steps;
        f = r.f;
        step = step;
        of = id;
        at = at_read s mid last r.tree r.steps row r.f at_mid c.numbers_of.ensures.kept;
        part = part_at s mid r.tree r.steps row r.f step id c.in-Ok.node _ at_mid meant.3 meant.2
            (λ above n below same stands fits. c.deref.ensures.value ∙ c.in_ok-numbers-in-Ok-part.ensures.numbers above n below same stands fits);
        is_number = sym order.0;
        is_index = refl;
      },
    )

pub put_part-requires-clause-sorted : goal.put_part-requires-clause-sorted
put_part-requires-clause-sorted c =
    (value_in_order (schema_view.view c.args.schema.now) c.args.place.last.id.0 c.args.value.now (branch_of c.in-Ok-part.part) (numbered c.args.schema.now) c.in-Ok-part.ensures).1

pub returns-in_err-numbers-in-Ok-part-clause-reads : goal.returns-in_err-numbers-in-Ok-part-clause-reads
returns-in_err-numbers-in-Ok-part-clause-reads c = λ tree above f at fits given. memory_within c.from_residual.result _ (store_of c.args.counted.now) (store_of c.numbers_of.new.counted) c.from_residual.ensures.1

pub returns-in-Err-part-clause-reads : goal.returns-in-Err-part-clause-reads
returns-in-Err-part-clause-reads c = λ tree above f at fits given.
    let two = c.in-Ok.ensures.reads in refused_within (Unit {0}) c.in-Err-part.fault _ (store_of c.args.counted.now) (store_of c.instance_meant.new.counted) (omega (arith, two))

pub returns-in-Err-clause-reads : goal.returns-in-Err-clause-reads
returns-in-Err-clause-reads c = λ tree above f at fits given.
    let two = c.in-Err.ensures.reads in refused_within (Unit {0}) c.in-Err.fault _ (store_of c.args.counted.now) (store_of c.instance_meant.new.counted) (omega (arith, two))

pub returns-in_ok-numbers-in-Ok-part-clause-reads : goal.returns-in_ok-numbers-in-Ok-part-clause-reads
returns-in_ok-numbers-in-Ok-part-clause-reads c = λ tree above f at fits given.
    let s = schema_view.view c.args.schema.now in
    let id = c.args.place.last.id in
    let row = c.args.place.above in
    let old = store_of c.args.counted.now in
    let mid = store_of c.instance_meant.new.counted in
    let last = store_of c.numbers_of.new.counted in
    let t = target_at s above f c.args.place.last in
    let b = branch_of c.in-Ok-part.part in
    let meant = c.in-Ok.ensures.meets tree above f at in
    let step = meant.0 in
    let found = meant.3 in
    let at_mid = at_read s old mid tree above row f at c.in-Ok.ensures.kept in
    let part = part_at s mid tree above row f step id c.in-Ok.node _ at_mid found meant.2
    (λ r n below same stands fits. c.deref.ensures.value ∙ c.in_ok-numbers-in-Ok-part.ensures.numbers r n below same stands fits) in
    let there = found_there s mid tree above row f step id c.in-Ok.node at_mid found in
    let numbers = c.in_ok-numbers-in-Ok-part.ensures.reads row found.frame.label found.below found.is_id there.0 there.1 in
    let order = value_in_order s id.0 c.args.value.now b (numbered c.args.schema.now) c.in-Ok-part.ensures in
    let value = ap (λ k. spec.branch_of s k c.args.value.now) (number_is s id.0) ∙ c.in-Ok-part.ensures in
    let old_is = meant_is step found.frame.before found.frame.after found.frame.label found.below f found.is_row (ap (λ (i : SchemaId). i.0) found.is_schema ∙ meant.2)
    (ap (λ k. instances_in (tree_of found.frame.before) k) (sym meant.2) ∙ found.is_index) in
    let parts = sym (ap (parts_reads s tree) (replaced_parts_are s c.args.value.now t step b meant.1 value)) in
    within_more c.put_part.result (exchange_reads s tree (gives_way t step b)) _ old last (store_of c.put_part.new.counted)
    (spent_numbers _ _ _ 2 _ _ _ _ c.in-Ok.ensures.reads numbers (part_light s (node found.frame.label found.below end) _ old_is) parts)
    (c.put_part.ensures.reads tree above f t.last step id (at_read s mid last tree above row f at_mid c.numbers_of.ensures.kept) part order.0 fits
    (subst (λ r. IfOk r (Fits s)) (replaced_is s tree c.args.value.now t step b meant.1 value) given))
