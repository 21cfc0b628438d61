use Rattle.std.proofs.Common.{◌≡◌, ◌++◌, drop, map}
use Rattle.std.specs.String.{string_bytes}
use Rattle.yspec.specs.types.Types.{simple_in}
use Rattle.ytype.proofs.members.made_for.Given as goal

abbrev pub invariant-members : goal.invariant-members
invariant-members l = l.made ++ map (simple_in (string_bytes l.home.value)) (drop l.number l.members) ≡ map (simple_in (string_bytes l.home.value)) l.members
