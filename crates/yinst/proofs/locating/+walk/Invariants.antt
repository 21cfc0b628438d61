use Rattle.std.proofs.Common.{length}
use Rattle.yinst.proofs.locating.+walk.Given as goal

abbrev pub decreases-locate_on : goal.decreases-locate_on
decreases-locate_on l = length l.steps.now
