use Rattle.std.proofs.Common.{length}
use Rattle.yinst_path.proofs.binding.+in_place.Given as goal

abbrev pub decreases-are_in_place : goal.decreases-are_in_place
decreases-are_in_place l = length l.steps.now
