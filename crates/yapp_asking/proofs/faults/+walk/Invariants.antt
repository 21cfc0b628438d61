use Rattle.std.proofs.Common.{length}
use Rattle.yapp_asking.proofs.faults.+walk.Given as goal

abbrev pub decreases-is_below : goal.decreases-is_below
decreases-is_below l = length l.place.now
