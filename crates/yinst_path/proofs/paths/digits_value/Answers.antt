use Rattle.std.proofs.Common.{arith}
use Rattle.yinst_path.proofs.PathLemmas.{digits_step, digits_end}
use Rattle.yinst_path.proofs.paths.digits_value.Goals as goal

pub loop-byte-preserved : goal.loop-byte-preserved
loop-byte-preserved c = record {
  fits = omega (arith, c.saturating_add-number.ensures);
  rest = digits_step c.loop-byte.number c.loop-byte.byte-index c.saturating_add-number.result c.args.bytes.now _ c.loop-byte-test.true
      (omega (arith, c.saturating_add-number.ensures, c.saturating_mul.ensures, c.from-digit.ensures, c.saturating_sub.ensures)) c.loop-byte.invariant.rest;
}

pub returns : goal.returns
returns c = digits_end c.loop-byte.number c.loop-byte.byte-index c.args.bytes.now _ (omega (arith, c.loop-byte-test.false)) c.loop-byte.invariant.fits c.loop-byte.invariant.rest
