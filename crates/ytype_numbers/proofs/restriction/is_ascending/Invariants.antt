use Rattle.std.proofs.Common.{◌≡◌, None, drop}
use Rattle.yspec.specs.types.Ranges.{is_ascending_from}
use Rattle.ytype_numbers.proofs.restriction.is_ascending.Given as goal

abbrev pub invariant-parts : goal.invariant-parts
invariant-parts l = is_ascending_from l.before (drop l.part-index l.parts) ≡ is_ascending_from None l.parts
