use Rattle.std.proofs.Common.{arith}
use Rattle.yschema_types.proofs.MakingLemmas.{too_many_here, counted_so}
use Rattle.yschema_types.proofs.making.are_too_many.Goals as goal

pub returns-then-more-left : goal.returns-then-more-left
returns-then-more-left c =
    too_many_here c.args.types.now c.loop-value_type.value_type-index c.value_type-item.result (omega arith) c.value_type-item.is c.loop-value_type.left
    c.member_count-more.result c.member_count-more.ensures _ (omega arith) c.loop-value_type.invariant

pub loop-value_type-preserved : goal.loop-value_type-preserved
loop-value_type-preserved c =
    counted_so c.args.types.now c.loop-value_type.value_type-index c.value_type-item.result (omega arith) c.value_type-item.is c.loop-value_type.left
    c.member_count-more.result c.member_count-more.ensures _ (omega arith) c.loop-value_type.invariant
