use Rattle.std.proofs.Common.{arith}
use Rattle.ylink_types.specs.TypeView.{member_view}
use Rattle.ylink_types.proofs.TypeLemmas.{one_held}
use Rattle.ylink_types.proofs.types.copies_of.Goals as goal

pub loop-member-preserved : goal.loop-member-preserved
loop-member-preserved c =
    one_held member_view member_view c.loop-member.copies.items c.push.new.self.items c.in_ok-copy.field-0 c.args.members.now c.loop-member.member-index
    c.member-item.result (omega arith) c.member-item.is c.in_ok-push.ensures.items c.in_ok-copy.ensures c.loop-member.invariant
