use Rattle.std.proofs.Common.{sym}
use Rattle.ysay_place.proofs.PlaceLemmas.{above_seen}
use Rattle.ysay_fault.proofs.explanation.steps_above.Goals as goal

pub returns-in-Some : goal.returns-in-Some
returns-in-Some c = sym (above_seen c.args.steps.now c.in-Some.above.now c.in-Some.field-0-0.now c.in-Some.ensures.cases.0)
