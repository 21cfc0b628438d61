use Rattle.std.proofs.Common.{get_or, refl}
use Rattle.yschema_model.proofs.TargetLemmas.{some_here, none_here, some_past}
use Rattle.yschema_model.proofs.node.MemberTargets.are_some.Goals as goal

pub returns-then-count-gt0 : goal.returns-then-count-gt0
returns-then-count-gt0 c =
    some_here c.args.all.now c.loop-members.members-index (get_or c.args.all.now c.loop-members.members-index _) _ c.loop-members-test.true refl _
    c.count.result c.count.ensures c.if-count-gt0.true c.loop-members.invariant

pub loop-members-preserved : goal.loop-members-preserved
loop-members-preserved c =
    none_here c.args.all.now c.loop-members.members-index (get_or c.args.all.now c.loop-members.members-index _) _ c.loop-members-test.true refl _
    c.count.result c.count.ensures c.if-count-gt0.false c.loop-members.invariant

pub returns : goal.returns
returns c = some_past c.args.all.now c.loop-members.members-index _ c.loop-members-test.false c.loop-members.invariant
