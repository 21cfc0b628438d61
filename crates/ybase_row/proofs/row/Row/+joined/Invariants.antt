use Rattle.std.proofs.Common.{length, ◌+◌}
use Rattle.ybase_row.proofs.row.Row.+joined.Given as goal

abbrev pub decreases-joined : goal.decreases-joined
decreases-joined g l = length l.front.now + length l.back.now
