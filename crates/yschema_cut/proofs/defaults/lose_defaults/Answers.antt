use Rattle.std.proofs.Common.{false, sym, ◌∙◌, arith}
use Rattle.yschema_cut.proofs.CuttingLemmas.{loses_one, none_loses}
use Rattle.yschema_cut.proofs.defaults.lose_defaults.Goals as goal

pub loop-number-preserved : goal.loop-number-preserved
loop-number-preserved c =
    loses_one c.args.off.now c.loop-number.number c.is_told.result false _ _ _ c.loop-number-test.true c.is_told.ensures c.in_ok-lose_default_if.ensures c.loop-number.invariant

pub returns : goal.returns
returns c =
    sym (none_loses c.loop-number.number c.args.off.now _ (omega (arith, c.loop-number-test.false))) ∙ c.loop-number.invariant
