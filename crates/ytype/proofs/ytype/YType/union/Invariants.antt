use Rattle.std.proofs.Common.{◌≡◌, ◌++◌, drop}
use Rattle.yspec.specs.types.Restriction.{all_members}
use Rattle.ytype.proofs.ytype.YType.union.Given as goal

abbrev pub invariant-types : goal.invariant-types
invariant-types l = l.members ++ all_members (drop l.member-index l.types) ≡ all_members l.types
