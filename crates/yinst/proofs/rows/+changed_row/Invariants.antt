use Rattle.std.proofs.Common.{◌+◌, ◌*◌, length}
use Rattle.yinst.proofs.rows.+changed_row.Given as goal

-- one node less leads on
abbrev pub decreases-changed_row : goal.decreases-changed_row
decreases-changed_row l = 2 * length l.above.now

abbrev pub decreases-changed_below : goal.decreases-changed_below
decreases-changed_below l = 2 * length l.rest.now + 1
