use Rattle.std.proofs.Common.{◌≡◌, drop}
use Rattle.std.specs.List.{list_all}
use Rattle.yspec.specs.types.Names.{is_naming_of}
use Rattle.ytype_numbers.proofs.left.are_namings_of.Given as goal

abbrev pub invariant-namings : goal.invariant-namings
invariant-namings l = list_all (is_naming_of l.names) (drop l.naming-index l.namings) ≡ list_all (is_naming_of l.names) l.namings
