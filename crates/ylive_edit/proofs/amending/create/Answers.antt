use Rattle.std.proofs.Common.{ap, arith, subst, sym, ◌∙◌}
use Rattle.std.specs.Prelude.{Err, IfOk, if◌then◌else◌}
use Rattle.yspec.specs.Results.{◌>>=◌}
use Rattle.yspec.specs.edit.Edit.{edit_at}
use Rattle.yspec.specs.edit.Editing as spec
use Rattle.yschema_model.specs.View as schema_view
use Rattle.yschema_model.proofs.CallerLemmas.{numbered}
use Rattle.yinst_path.specs.Applying.{told_by}
use Rattle.ystore.specs.Views.{store_of}
use Rattle.yinst.proofs.LocatingLemmas.{number_is}
use Rattle.ylive_edit.specs.Locating.{target_at}
use Rattle.ylive_edit.specs.Places.{Amends, branch_of}
use Rattle.ylive_edit.proofs.AmendLemmas.{amends_fault, created_is, fails_on, fails_same, holds_at, shows_at, somewhere_read}
use Rattle.ylive_edit.proofs.LocatingLemmas.{at_read, hangs_at}
use Rattle.ylive_edit.proofs.OrderLemmas.{value_in_order}
use Rattle.yspec.specs.document.Fitting.{Fits}
use Rattle.yspec_reach.specs.Parts.{comes}
use Rattle.ylive_edit.specs.Reads.{created_parts, exchange_reads, parts_reads}
use Rattle.ylive_edit.proofs.ReadLemmas.{created_parts_are, exchange_within, refused_within, spent_before, within_more}
use Rattle.ylive_edit.proofs.amending.create.Goals as goal

pub returns-then-is_there-clause-amends : goal.returns-then-is_there-clause-amends
returns-then-is_there-clause-amends c = λ tree above f at.
    let s = schema_view.view c.args.schema.now in
    let row = c.args.place.above in
    let old = store_of c.args.counted.now in
    let mid = store_of c.is_there.new.counted in
    let t = target_at s above f c.args.place.last in
    let at_mid = at_read s old mid tree above row f at c.is_there.ensures.kept in
    let there = sym (c.is_there.ensures.there above f (hangs_at s old tree above row f at)) ∙ c.if-is_there.true in
    subst (λ fault. Amends {X = Unit {0}} s tree (spec.created s tree c.args.value.now t) mid (Err fault)) (sym c.refused.ensures) (
      ap (λ b. if b then spec.refused 8 else (spec.branch_of s t.last.schema_node.number c.args.value.now >>= (λ x. spec.within_limit (edit_at t.above (spec.with_branch x) tree)))) there,
      holds_at s mid tree above row f at_mid,
    )

pub returns-in-Ok-clause-amends : goal.returns-in-Ok-clause-amends
returns-in-Ok-clause-amends c = λ tree above f at.
    let s = schema_view.view c.args.schema.now in
    let row = c.args.place.above in
    let id = c.args.place.last.id in
    let old = store_of c.args.counted.now in
    let mid = store_of c.is_there.new.counted in
    let t = target_at s above f c.args.place.last in
    let at_mid = at_read s old mid tree above row f at c.is_there.ensures.kept in
    let none = sym (c.is_there.ensures.there above f (hangs_at s old tree above row f at)) ∙ c.if-is_there.false in
    let order = value_in_order s id.0 c.args.value.now (branch_of c.in-Ok.part) (numbered c.args.schema.now) c.in-Ok.ensures in
    let value = ap (λ k. spec.branch_of s k c.args.value.now) (number_is s id.0) ∙ c.in-Ok.ensures in
    subst (λ a. Amends s tree a (store_of c.add_part.new.counted) c.add_part.result) (sym (created_is s tree c.args.value.now t (branch_of c.in-Ok.part) none value))
    (c.add_part.ensures.amends tree above f at_mid)

pub returns-in-Err-clause-amends : goal.returns-in-Err-clause-amends
returns-in-Err-clause-amends c = λ tree above f at.
    let s = schema_view.view c.args.schema.now in
    let row = c.args.place.above in
    let old = store_of c.args.counted.now in
    let mid = store_of c.is_there.new.counted in
    let t = target_at s above f c.args.place.last in
    let at_mid = at_read s old mid tree above row f at c.is_there.ensures.kept in
    let none = sym (c.is_there.ensures.there above f (hangs_at s old tree above row f at)) ∙ c.if-is_there.false in
    let told = told_by c.in-Err.fault in
    let fails = fails_same told (spec.branch_of s t.last.schema_node.number c.args.value.now) (spec.branch_of s c.args.place.last.id.0 c.args.value.now)
    (ap (λ k. spec.branch_of s k c.args.value.now) (number_is s c.args.place.last.id.0)) c.in-Err.ensures in
    amends_fault (Unit {0}) s mid tree (spec.created s tree c.args.value.now t) c.in-Err.fault
    (fails_same told (spec.created s tree c.args.value.now t) _
    (ap (λ b. if b then spec.refused 8 else (spec.branch_of s t.last.schema_node.number c.args.value.now >>= (λ x. spec.within_limit (edit_at t.above (spec.with_branch x) tree)))) none)
    (fails_on told (spec.branch_of s t.last.schema_node.number c.args.value.now) (λ x. spec.within_limit (edit_at t.above (spec.with_branch x) tree)) fails))
    (holds_at s mid tree above row f at_mid) (shows_at s mid tree above row f at_mid)

pub add_part-requires-clause-at : goal.add_part-requires-clause-at
add_part-requires-clause-at c =
    somewhere_read (schema_view.view c.args.schema.now) (store_of c.args.counted.now) (store_of c.is_there.new.counted) c.args.place.above c.is_there.ensures.kept c.requires

pub add_part-requires-clause-sorted : goal.add_part-requires-clause-sorted
add_part-requires-clause-sorted c =
    (value_in_order (schema_view.view c.args.schema.now) c.args.place.last.id.0 c.args.value.now (branch_of c.in-Ok.part) (numbered c.args.schema.now) c.in-Ok.ensures).1

pub returns-then-is_there-clause-reads : goal.returns-then-is_there-clause-reads
returns-then-is_there-clause-reads c = λ tree above f at fits given.
    let one = c.is_there.ensures.reads in refused_within (Unit {0}) c.refused.result _ (store_of c.args.counted.now) (store_of c.is_there.new.counted) (omega (arith, one))

pub returns-in-Err-clause-reads : goal.returns-in-Err-clause-reads
returns-in-Err-clause-reads c = λ tree above f at fits given.
    let one = c.is_there.ensures.reads in refused_within (Unit {0}) c.in-Err.fault _ (store_of c.args.counted.now) (store_of c.is_there.new.counted) (omega (arith, one))

pub returns-in-Ok-clause-reads : goal.returns-in-Ok-clause-reads
returns-in-Ok-clause-reads c = λ tree above f at fits given.
    let s = schema_view.view c.args.schema.now in
    let row = c.args.place.above in
    let id = c.args.place.last.id in
    let old = store_of c.args.counted.now in
    let mid = store_of c.is_there.new.counted in
    let t = target_at s above f c.args.place.last in
    let b = branch_of c.in-Ok.part in
    let at_mid = at_read s old mid tree above row f at c.is_there.ensures.kept in
    let none = sym (c.is_there.ensures.there above f (hangs_at s old tree above row f at)) ∙ c.if-is_there.false in
    let value = ap (λ k. spec.branch_of s k c.args.value.now) (number_is s id.0) ∙ c.in-Ok.ensures in
    within_more c.add_part.result (exchange_reads s tree (comes t b)) _ old mid (store_of c.add_part.new.counted)
    (spent_before _ _ 1 _ _ c.is_there.ensures.reads
    (exchange_within s tree (comes t b) (created_parts s c.args.value.now t) (created_parts_are s c.args.value.now t b none value)))
    (c.add_part.ensures.reads tree above f t.last at_mid fits (subst (λ r. IfOk r (Fits s)) (created_is s tree c.args.value.now t b none value) given))
