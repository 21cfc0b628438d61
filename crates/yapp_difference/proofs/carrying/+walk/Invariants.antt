use Rattle.std.proofs.Common.{length}
use Rattle.yapp_difference.proofs.carrying.+walk.Given as goal

abbrev pub decreases-leads_below : goal.decreases-leads_below
decreases-leads_below l = length l.steps.now
