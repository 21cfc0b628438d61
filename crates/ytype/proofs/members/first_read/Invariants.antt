use Rattle.std.proofs.Common.{◌≡◌, drop}
use Rattle.yspec.specs.types.Types.{SimpleType, first_value}
use Rattle.yspec.specs.types.Values.{simple_read}
use Rattle.ytype_simple.specs.Identities.{module_names_view}
use Rattle.ytype.proofs.members.first_read.Given as goal

abbrev pub invariant-members : goal.invariant-members
invariant-members l = first_value (λ (s : SimpleType). simple_read (module_names_view l.names) s l.text) l.number (drop l.number l.members) ≡ first_value (λ (s : SimpleType). simple_read (module_names_view l.names) s l.text) 0 l.members
