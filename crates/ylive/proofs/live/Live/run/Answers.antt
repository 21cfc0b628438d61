use Rattle.std.proofs.Common.{◌∙◌, arith}
use Rattle.ylive.specs.View.{view, outcome_view, outcomes_view}
use Rattle.ylive.proofs.RunLemmas.{decided_to_next, is_fresh, one_longer, pushed, still_fresh, stopped, tried_next}
use Rattle.ylive.proofs.live.Live.run.Goals as goal

pub returns-in-Err-decide-clause-runs : goal.returns-in-Err-decide-clause-runs
returns-in-Err-decide-clause-runs c = stopped _ _ _ _ (view c.args.self.now) (view c.loop-edit.self) (view c.decide.new.self) c.args.edits.now _
    c.out_of_memory-in-Err-decide.ensures.code (c.out_of_memory-in-Err-decide.ensures.done ∙ c.len.ensures) c.loop-edit.invariant.counted c.loop-edit-test.true
    (is_fresh (view c.args.self.now) c.is_stale.result c.is_stale.ensures c.if-is_stale.false) c.loop-edit.invariant.decided c.in-Err-decide.ensures.decides

pub returns-in-Err-decide-clause-lent : goal.returns-in-Err-decide-clause-lent
returns-in-Err-decide-clause-lent c = tried_next _ _ _ _ _ _ _ c.out_of_memory-in-Err-decide.ensures.code
    (c.out_of_memory-in-Err-decide.ensures.done ∙ c.len.ensures) c.loop-edit.invariant.counted c.loop-edit.invariant.tried c.decide.ensures.lent

pub loop-edit-preserved : goal.loop-edit-preserved
loop-edit-preserved c =
    let room = c.push.ensures.succeeds (omega (arith, c.loop-edit.invariant.counted, c.loop-edit.invariant.room, c.loop-edit-test.true)) in
    record {
      decided = decided_to_next (view c.args.self.now) (view c.loop-edit.self) (view c.decide.new.self) c.args.edits.now c.loop-edit.edit-index
          c.edit-item.result (outcomes_view c.loop-edit.outcomes.items) _ (outcome_view c.in-Ok-decide.outcome) c.loop-edit-test.true c.edit-item.is
          c.loop-edit.invariant.decided c.in-Ok-decide.ensures.decides.0 c.in-Ok-decide.ensures.decides.1
          (pushed c.loop-edit.outcomes.items c.push.new.self.items c.in-Ok-decide.outcome _ c.push.ensures.items room);
      fresh = still_fresh (view c.loop-edit.self) (view c.decide.new.self) _ c.in-Ok-decide.ensures.decides.1 c.loop-edit.invariant.fresh;
      tried = omega (arith, c.loop-edit.invariant.tried, c.decide.ensures.lent);
      counted = one_longer _ _ _ _ c.push.ensures.len room c.loop-edit.invariant.counted;
      room = omega (arith, c.loop-edit.invariant.room, c.push.ensures.capacity);
    }
