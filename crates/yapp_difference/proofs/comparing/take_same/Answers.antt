use Rattle.std.proofs.Common.{rules, refl, sym, ap, ◌∙◌}
use Rattle.yspec_session.specs.Carrying.{difference}
use Rattle.ycheck.specs.View.{view, views}
use Rattle.yapp_difference.specs.Counting.{taken_of, with_gone_unless, without}
use Rattle.yapp_difference.specs.Turning.{turn_views}
use Rattle.yapp_difference.proofs.ComparingLemmas.{all_gone, first_gone, none_left, one_gone, one_there}
use Rattle.yapp_difference.proofs.comparing.take_same.Goals as goal

pub loop-fault-init : goal.loop-fault-init
loop-fault-init c =
    record {
      all = λ k. refl;
      taken = λ later same.
          first_gone (turn_views c.args.turns.now) c.args.faults.items c.into_iter-fault-iterator.result.rest.items c.new-gone.result.items (search rules) (search rules)
          (without (taken_of c.args.counts.now) later);
    }

pub loop-fault-preserved-then-branch : goal.loop-fault-preserved-then-branch
loop-fault-preserved-then-branch c =
    let t = turn_views c.args.turns.now in
    let f = c.in-Some.fault in
    let more = c.next.new.self.rest.items in
    record {
      all = λ k. c.in_ok-take_one.ensures.all k ∙ c.loop-fault.invariant.all k;
      taken = λ later same.
          one_there t c.loop-fault.fault-iterator.rest.items more c.loop-fault.gone.items f c.in-Some.ensures.steps.0
          (without (taken_of c.loop-fault.counts) later) (without (taken_of c.take_one.new.counts) later) _
          (c.in_ok-take_one.ensures.taken (views more) later (λ k. c.loop-fault.invariant.all k ∙ same k)
          ∙ ap (λ b. with_gone_unless b (view f) (difference t (views more) (without (taken_of c.take_one.new.counts) later))) c.if-branch.true)
          (c.loop-fault.invariant.taken later same);
    }

pub loop-fault-preserved : goal.loop-fault-preserved
loop-fault-preserved c =
    let t = turn_views c.args.turns.now in
    let f = c.in-Some.fault in
    let more = c.next.new.self.rest.items in
    record {
      all = λ k. c.in_ok-take_one.ensures.all k ∙ c.loop-fault.invariant.all k;
      taken = λ later same.
          one_gone t c.loop-fault.fault-iterator.rest.items more c.loop-fault.gone.items c.push.new.self.items f c.in-Some.ensures.steps.0 c.in_ok-push.ensures.items
          (without (taken_of c.loop-fault.counts) later) (without (taken_of c.take_one.new.counts) later) _
          (c.in_ok-take_one.ensures.taken (views more) later (λ k. c.loop-fault.invariant.all k ∙ same k)
          ∙ ap (λ b. with_gone_unless b (view f) (difference t (views more) (without (taken_of c.take_one.new.counts) later))) c.if-branch.false)
          (c.loop-fault.invariant.taken later same);
    }

pub returns : goal.returns
returns c = λ later same.
    all_gone (turn_views c.args.turns.now) c.loop-fault.fault-iterator.rest.items c.loop-fault.gone.items
    (none_left c.loop-fault.fault-iterator.rest.items (sym c.loop-fault.fault-iterator.rest.ok.0 ∙ c.in-None.ensures.steps.0))
    (without (taken_of c.loop-fault.counts) later) _ (c.loop-fault.invariant.taken later same)
