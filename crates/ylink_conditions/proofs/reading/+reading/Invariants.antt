use Rattle.std.proofs.Common.{◌+◌, ◌*◌}
use Rattle.ylink_conditions.proofs.reading.+reading.Given as goal

abbrev pub decreases-behind_factor : goal.decreases-behind_factor
decreases-behind_factor l = 2 * l.steps + 1

abbrev pub decreases-behind_term : goal.decreases-behind_term
decreases-behind_term l = 2 * l.steps + 1

abbrev pub decreases-one_factor : goal.decreases-one_factor
decreases-one_factor l = 2 * l.steps + 1

abbrev pub decreases-read_level : goal.decreases-read_level
decreases-read_level l = 2 * l.steps
