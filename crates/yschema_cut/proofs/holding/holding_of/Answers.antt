use Rattle.ylink_standing.specs.ConditionView.{holds_at, is_in}
use Rattle.yschema_cut.proofs.HoldingLemmas.{told_more}
use Rattle.yschema_cut.proofs.holding.holding_of.Goals as goal

pub loop-number-preserved : goal.loop-number-preserved
loop-number-preserved c =
    told_more (holds_at c.args.features.now.conditions.items (is_in c.args.features.now.on.items)) c.loop-number.number c.slots-slots.result.now
    c.loop-number.holding.items c.push.new.self.items _ c.holds_at.result c.loop-number-test.true c.holds_at.ensures c.in_ok-push.ensures.items c.loop-number.invariant
