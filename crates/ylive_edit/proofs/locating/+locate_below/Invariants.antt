use Rattle.std.proofs.Common.{length}
use Rattle.ylive_edit.proofs.locating.+locate_below.Given as goal

abbrev pub decreases-locate_below : goal.decreases-locate_below
decreases-locate_below l = length l.steps.now
