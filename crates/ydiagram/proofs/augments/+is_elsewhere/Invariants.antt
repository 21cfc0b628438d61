use Rattle.ydiagram.proofs.augments.+is_elsewhere.Given as goal

abbrev pub decreases-is_elsewhere : goal.decreases-is_elsewhere
decreases-is_elsewhere l = l.id.0
