use Rattle.std.proofs.Common.{◌≡◌, ◌∙◌, ◌<◌, false, true, Some, None, replicate, set, length, sym, ap, subst, arith}
use Rattle.ybase_index.specs.Index.{texts_of}
use Rattle.yschema_expand.specs.AugmentView.{augments_seen}
use Rattle.yschema_augment.specs.Arranging.{rows_of}
use Rattle.yschema_expand.specs.NamedView.{language_of, modules_of}
use Rattle.yschema_augment.specs.Picking.{askings_of, is_waiting, count_left, AllSettled, Picks}
use Rattle.yschema_augment.specs.SearchView.{AreTexts}
use Rattle.yschema_expand.specs.TableView.{slots_of}
use Rattle.yschema_augment.specs.Turning.{Goes}
use Rattle.yschema_augment.proofs.LeftLemmas.{fewer_left, within}
use Rattle.yschema_augment.proofs.PickingLemmas.{sound_through}
use Rattle.yschema_augment.proofs.ResolvingLemmas.{goes_on, goes_end}
use Rattle.yschema_augment.proofs.targets.Targets.resolve.Goals as goal

pub next-requires-clause-settled : goal.next-requires-clause-settled
next-requires-clause-settled c = subst (λ ws. AllSettled (askings_of c.args.self.now.named.now) (slots_of c.args.self.now.nodes.now) (augments_seen c.args.self.now.augments.now) c.args.self.now.paths.now ws c.loop-applied.search)
    (sym c.deref.ensures.value) c.loop-applied.invariant.settled

pub apply-requires-clause-sound : goal.apply-requires-clause-sound
apply-requires-clause-sound c =
    sound_through c.args.self.now.paths.now c.loop-applied.search c.next.new.search c.in-Some.ensures.0 c.loop-applied.invariant.sound

pub apply-requires-clause-ranged : goal.apply-requires-clause-ranged
apply-requires-clause-ranged c j n step e =
    subst (λ ts. step.text < length ts) (sym (ap texts_of c.in-Some.ensures.0.index ∙ c.loop-applied.invariant.texts)) (c.requires.ranged j n step e)

pub apply-requires-clause-texts : goal.apply-requires-clause-texts
apply-requires-clause-texts c =
    let waiting : is_waiting c.loop-applied.waits.items c.in-Some.applied.augment ≡ true =
    subst (λ ws. is_waiting ws c.in-Some.applied.augment ≡ true) c.deref.ensures.value c.in-Some.ensures.1.0 in
    subst (λ ts. AreTexts ts (rows_of c.args.self.now.starts.now (slots_of c.args.self.now.nodes.now) c.in-Some.applied.augment))
    (sym (ap texts_of c.in-Some.ensures.0.index ∙ c.loop-applied.invariant.texts))
    (c.requires.texts c.in-Some.applied.augment (omega (arith, within c.loop-applied.waits.items c.in-Some.applied.augment waiting, c.loop-applied.invariant.lengths)))

pub loop-applied-smaller : goal.loop-applied-smaller
loop-applied-smaller c =
    let waits = c.loop-applied.waits.items in
    let j = c.in-Some.applied.augment in
    let waiting : is_waiting waits j ≡ true = subst (λ ws. is_waiting ws j ≡ true) c.deref.ensures.value c.in-Some.ensures.1.0 in
    let less : count_left (set waits j false) < count_left waits = omega (arith, fewer_left waits j waiting) in
    less

pub loop-applied-preserved : goal.loop-applied-preserved
loop-applied-preserved c =
    let l = language_of c.args.self.now.named.now in
    let m = modules_of c.args.self.now.named.now in
    let augments = augments_seen c.args.self.now.augments.now in
    let slots = slots_of c.args.self.now.nodes.now in
    let starts = c.args.self.now.starts.now in
    let paths = c.args.self.now.paths.now in
    let a = c.in-Some.applied in
    let waits = c.loop-applied.waits.items in
    let order = c.loop-applied.order.items in
    let picks : Picks (askings_of c.args.self.now.named.now) slots augments paths waits (Some a) c.loop-applied.search c.next.new.search =
    subst (λ ws. Picks (askings_of c.args.self.now.named.now) slots augments paths ws (Some a) c.loop-applied.search c.next.new.search) c.deref.ensures.value c.in-Some.ensures in
    subst (λ as_pushed. Goes l m augments slots starts paths c.args.search.now (set waits a.augment false) as_pushed c.apply.new.search) (sym c.in_ok-push.ensures.items)
    (goes_on l m augments slots starts paths c.args.search.now c.loop-applied.search c.next.new.search c.apply.new.search waits order a c.requires c.loop-applied.invariant
    picks.0 picks.1 picks.2 c.in_ok-apply.ensures)

pub loop-applied-init : goal.loop-applied-init
loop-applied-init c =
    let l = language_of c.args.self.now.named.now in
    let m = modules_of c.args.self.now.named.now in
    let augments = augments_seen c.args.self.now.augments.now in
    let slots = slots_of c.args.self.now.nodes.now in
    let starts = c.args.self.now.starts.now in
    let paths = c.args.self.now.paths.now in
    let s = c.args.search.now in
    let paired : length c.args.self.now.augments.now ≡ length paths = sym c.args.self.now.paired in
    subst (λ ws. Goes l m augments slots starts paths s ws c.new-order.result.items c.start.new.search) (ap (λ n. replicate n true) paired ∙ sym c.in_ok-waits.ensures)
    (subst (λ o. Goes l m augments slots starts paths s (replicate (length c.args.self.now.augments.now) true) o c.start.new.search) (sym c.new-order.ensures.items) c.in_ok-start.ensures)

pub returns : goal.returns
returns c =
    let l = language_of c.args.self.now.named.now in
    let m = modules_of c.args.self.now.named.now in
    let augments = augments_seen c.args.self.now.augments.now in
    let slots = slots_of c.args.self.now.nodes.now in
    let starts = c.args.self.now.starts.now in
    let paths = c.args.self.now.paths.now in
    let waits = c.loop-applied.waits.items in
    let picks : Picks (askings_of c.args.self.now.named.now) slots augments paths waits None c.loop-applied.search c.next.new.search =
    subst (λ ws. Picks (askings_of c.args.self.now.named.now) slots augments paths ws None c.loop-applied.search c.next.new.search) c.deref.ensures.value c.in_default.ensures in
    goes_end l m augments slots starts paths c.args.search.now c.loop-applied.search c.next.new.search waits c.loop-applied.order.items c.requires c.loop-applied.invariant picks.0 picks.1
