use Rattle.std.proofs.Common.{◌≡◌, drop}
use Rattle.yspec.specs.types.Names.{are_enum_names}
use Rattle.ytype_numbers.proofs.name.are_enum_names.Given as goal

abbrev pub invariant-namings : goal.invariant-namings
invariant-namings l = are_enum_names (drop l.naming-index l.namings) ≡ are_enum_names l.namings
