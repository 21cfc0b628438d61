use Rattle.ysay_place.proofs.target.+add_steps_to.Given as goal

-- the node above comes before
abbrev pub decreases-add_steps_to : goal.decreases-add_steps_to
decreases-add_steps_to l = l.id.0
