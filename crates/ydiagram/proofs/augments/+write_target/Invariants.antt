use Rattle.ydiagram.proofs.augments.+write_target.Given as goal

abbrev pub decreases-write_target : goal.decreases-write_target
decreases-write_target g l = l.id.0
