use Rattle.std.proofs.Common.{sym, ◌∙◌}
use Rattle.ysay_fault.proofs.FoundLemmas.{same_steps}
use Rattle.ysay_fault.proofs.known.KnownRow.is_of.Goals as goal

pub returns-then-eq-clause-above : goal.returns-then-eq-clause-above
returns-then-eq-clause-above c same =
    sym c.as_slice.ensures.value ∙ same_steps c.as_slice.result.now c.args.above.now (sym c.eq-then-eq.ensures ∙ same)
