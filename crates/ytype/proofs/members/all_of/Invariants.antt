use Rattle.std.proofs.Common.{◌≡◌, ◌++◌, drop}
use Rattle.ytype.proofs.members.all_of.Given as goal

abbrev pub invariant-members : goal.invariant-members
invariant-members l = l.all.items ++ drop l.number l.members ≡ l.members
