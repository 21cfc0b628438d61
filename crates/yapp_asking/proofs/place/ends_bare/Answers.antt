use Rattle.std.proofs.Common.{◌∙◌}
use Rattle.yapp_asking.proofs.PlaceLemmas.{bare_last}
use Rattle.yapp_asking.proofs.place.ends_bare.Goals as goal

pub returns-in-Some : goal.returns-in-Some
returns-in-Some c = c.is_bare.ensures ∙ bare_last c.args.steps.now c.in-Some.step.now c.in-Some.ensures.value
