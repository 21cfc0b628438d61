use Rattle.std.proofs.Common.{arith}
use Rattle.ytype_numbers.proofs.NumeralLemmas.{digits_step}
use Rattle.ylink_arguments.proofs.number.digits_from.Goals as goal

pub digits-preserved : goal.digits-preserved
digits-preserved c = (omega arith, digits_step 10 c.digits.number c.digits.byte-index _ _ c.args.digits.now _ (omega arith) c.digits-test.true c.digit_value-digit.ensures.value c.if-digit-ge10.false (rw c.from.ensures at c.min-number.ensures) c.digits.invariant.1)
