use Rattle.ysay_refusal.proofs.NodeLemmas.{last_seen}
use Rattle.ysay_refusal.proofs.place.last_step.Goals as goal

pub returns-in-Some : goal.returns-in-Some
returns-in-Some c = last_seen c.args.steps.now c.in-Some.field-0-1.now c.in-Some.step.now c.in-Some.ensures.cases.0
