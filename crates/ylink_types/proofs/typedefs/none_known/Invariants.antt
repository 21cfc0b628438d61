use Rattle.std.proofs.Common.{◌≡◌, length}
use Rattle.ylink_types.proofs.typedefs.none_known.Given as goal

abbrev pub invariant-loop-number : goal.invariant-loop-number
invariant-loop-number l = length l.table.items ≡ l.number
