use Rattle.ylive_edit.proofs.opening.+play.Given as goal

abbrev pub decreases-left_in_play : goal.decreases-left_in_play
decreases-left_in_play l = l.levels
