use Rattle.std.proofs.Common.{◌+◌, ◌*◌, length}
use Rattle.ysay_lines.proofs.located.+leading.Given as goal

-- fewer steps are left
abbrev pub decreases-from_value : goal.decreases-from_value
decreases-from_value l = 4 * length l.steps.now

abbrev pub decreases-from_member : goal.decreases-from_member
decreases-from_member l = 4 * length l.rest.now + 3

abbrev pub decreases-from_entry : goal.decreases-from_entry
decreases-from_entry l = 4 * length l.steps.now + 2

abbrev pub decreases-at_position : goal.decreases-at_position
decreases-at_position l = 4 * length l.steps.now + 1
