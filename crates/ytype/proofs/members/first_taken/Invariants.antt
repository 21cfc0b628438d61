use Rattle.std.proofs.Common.{◌≡◌, drop}
use Rattle.yspec.specs.types.Types.{SimpleType, first_value, simple_taken}
use Rattle.ytype_simple.specs.View.{raw_of}
use Rattle.ytype.proofs.members.first_taken.Given as goal

abbrev pub invariant-members : goal.invariant-members
invariant-members l = first_value (λ (s : SimpleType). simple_taken s (raw_of l.raw)) l.number (drop l.number l.members) ≡ first_value (λ (s : SimpleType). simple_taken s (raw_of l.raw)) 0 l.members
