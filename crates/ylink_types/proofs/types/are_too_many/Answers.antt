use Rattle.std.proofs.Common.{arith}
use Rattle.ylink_types.proofs.TypeLemmas.{too_many_first, next_counted}
use Rattle.ylink_types.proofs.types.are_too_many.Goals as goal

pub returns-then-more-left : goal.returns-then-more-left
returns-then-more-left c =
    too_many_first c.args.members.now c.loop-member.member-index c.member-item.result (omega arith) c.member-item.is c.loop-member.left c.width-more.result
    c.width-more.ensures _ (omega arith) c.loop-member.invariant

pub loop-member-preserved : goal.loop-member-preserved
loop-member-preserved c =
    next_counted c.args.members.now c.loop-member.member-index c.member-item.result (omega arith) c.member-item.is c.loop-member.left c.width-more.result
    c.width-more.ensures _ (omega arith) c.loop-member.invariant
