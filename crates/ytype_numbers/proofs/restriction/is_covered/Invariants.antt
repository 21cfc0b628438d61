use Rattle.std.proofs.Common.{◌≡◌, drop}
use Rattle.yspec.specs.types.Ranges.{is_covered}
use Rattle.ytype_numbers.proofs.restriction.is_covered.Given as goal

abbrev pub invariant-parts : goal.invariant-parts
invariant-parts l = is_covered (drop l.outer-index l.parts) l.low l.high ≡ is_covered l.parts l.part.low l.high
