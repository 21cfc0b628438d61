use Rattle.std.proofs.Common.{◌<◌, get_or, refl, subst}
use Rattle.yschema_model.proofs.TargetLemmas.{found_here, found_behind, found_past}
use Rattle.yschema_model.proofs.node.MemberTargets.found.Goals as goal

pub returns-then-left-count : goal.returns-then-left-count
returns-then-left-count c =
    let within = subst (λ n. c.loop-members.left < n) c.count-count.ensures c.if-left-count.true in
    found_here c.args.all.now c.loop-members.members-index (get_or c.args.all.now c.loop-members.members-index _) _ c.loop-members-test.true refl c.loop-members.left _ _
    within (c.at.ensures within) c.loop-members.invariant

pub loop-members-preserved : goal.loop-members-preserved
loop-members-preserved c =
    found_behind c.args.all.now c.loop-members.members-index (get_or c.args.all.now c.loop-members.members-index _) _ c.loop-members-test.true refl c.loop-members.left c.count-count.result _
    c.count-count.ensures c.if-left-count.false c.loop-members.invariant

pub returns : goal.returns
returns c = found_past c.args.all.now c.loop-members.members-index c.loop-members.left _ c.loop-members-test.false c.loop-members.invariant
