use Rattle.std.proofs.Common.{◌≡◌, [], drop}
use Rattle.yspec.specs.types.Names.{assigned_from}
use Rattle.ytype_numbers.proofs.name.assign.Given as goal

abbrev pub invariant-namings : goal.invariant-namings
invariant-namings l = assigned_from l.numbers l.names (drop l.naming-index l.namings) ≡ assigned_from l.numbers [] l.namings
