use Rattle.std.proofs.Common.{length}
use Rattle.yapp_asking.proofs.place.+walk.Given as goal

abbrev pub decreases-steps_on : goal.decreases-steps_on
decreases-steps_on l = length l.steps.now
