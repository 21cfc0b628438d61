use Rattle.std.proofs.Common.{arith}
use Rattle.ytype_numbers.proofs.NumeralLemmas.{digits_step}
use Rattle.ytype_numbers.proofs.numeral.number_in.Goals as goal

pub digits-preserved : goal.digits-preserved
digits-preserved c = (omega arith, digits_step c.args.base c.digits.number c.digits.byte-index _ _ c.args.digits.now _ c.requires.low c.digits-test.true c.digit_value-digit.ensures.value c.if-digit-base.false (rw (c.from.ensures, c.from-in-digits.ensures) at c.min-number.ensures) c.digits.invariant.1)
