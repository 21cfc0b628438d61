use Rattle.std.proofs.Common.{rules, sym, ap, ◌∙◌, ◌-◌, ◌&&◌}
use Rattle.std.specs.Prelude.{if◌then◌else◌}
use Rattle.std.proofs.Math.Path.{fun_ext}
use Rattle.yapp_difference.specs.Keys.{same_key}
use Rattle.yapp_difference.specs.KeyView.{key_view}
use Rattle.yapp_difference.specs.Counting.{taken_of}
use Rattle.yapp_difference.proofs.ComparingLemmas.{all_left, first_left, none_left, one_matched, one_new}
use Rattle.yapp_difference.proofs.comparing.without_taken.Goals as goal

pub loop-fault-init : goal.loop-fault-init
loop-fault-init c =
    first_left c.args.faults.items c.into_iter-fault-iterator.result.rest.items c.new-left.result.items (search rules) (search rules) (taken_of c.args.counts.now)

pub loop-fault-preserved-then-branch : goal.loop-fault-preserved-then-branch
loop-fault-preserved-then-branch c =
    let key = key_view c.in_ok-key_of.field-0 in
    let old = taken_of c.loop-fault.counts in
    one_matched c.loop-fault.fault-iterator.rest.items c.next.new.self.rest.items c.loop-fault.left.items c.in-Some.fault c.in-Some.ensures.steps.0
    key c.in_ok-key_of.ensures old (taken_of c.give.new.self) (sym c.in_ok-give.ensures.result ∙ c.if-branch.true)
    (fun_ext (λ k. c.in_ok-give.ensures.taken k ∙ ap (λ b. if b && same_key key k then old k - 1 else old k) c.if-branch.true)) _ c.loop-fault.invariant

pub loop-fault-preserved : goal.loop-fault-preserved
loop-fault-preserved c =
    let key = key_view c.in_ok-key_of.field-0 in
    let old = taken_of c.loop-fault.counts in
    one_new c.loop-fault.fault-iterator.rest.items c.next.new.self.rest.items c.loop-fault.left.items c.push.new.self.items c.in-Some.fault c.in-Some.ensures.steps.0
    c.in_ok-push.ensures.items key c.in_ok-key_of.ensures old (taken_of c.give.new.self) (sym c.in_ok-give.ensures.result ∙ c.if-branch.false)
    (fun_ext (λ k. c.in_ok-give.ensures.taken k ∙ ap (λ b. if b && same_key key k then old k - 1 else old k) c.if-branch.false)) _ c.loop-fault.invariant

pub returns : goal.returns
returns c =
    all_left c.loop-fault.fault-iterator.rest.items c.loop-fault.left.items
    (none_left c.loop-fault.fault-iterator.rest.items (sym c.loop-fault.fault-iterator.rest.ok.0 ∙ c.in-None.ensures.steps.0))
    (taken_of c.loop-fault.counts) _ c.loop-fault.invariant
