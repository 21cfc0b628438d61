use Rattle.std.proofs.Common.{sym, ◌∙◌, arith}
use Rattle.ylink_types.proofs.TypeLemmas.{not_own, next_own}
use Rattle.ylink_types.proofs.types.are_own.Goals as goal

pub returns-then-not-is_own : goal.returns-then-not-is_own
returns-then-not-is_own c =
    not_own c.args.members.now c.loop-member.member-index c.member-item.result (omega arith) c.member-item.is _
    (sym c.is_own.ensures ∙ c.if-not-is_own.true) c.loop-member.invariant

pub loop-member-preserved : goal.loop-member-preserved
loop-member-preserved c =
    next_own c.args.members.now c.loop-member.member-index c.member-item.result (omega arith) c.member-item.is _
    (sym c.is_own.ensures ∙ c.if-not-is_own.false) c.loop-member.invariant
