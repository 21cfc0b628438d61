use Rattle.yschema_resolve.proofs.guarding.+is_guarded_within.Given as goal

abbrev pub decreases-is_guarded_within : goal.decreases-is_guarded_within
decreases-is_guarded_within l = l.steps
