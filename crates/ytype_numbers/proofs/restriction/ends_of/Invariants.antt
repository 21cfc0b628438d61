use Rattle.std.proofs.Common.{◌≡◌, drop}
use Rattle.yspec.specs.types.Ranges.{last_high}
use Rattle.ytype_numbers.proofs.restriction.ends_of.Given as goal

abbrev pub invariant-others : goal.invariant-others
invariant-others l = last_high l.high (drop l.part-index l.others) ≡ last_high l.initial.high l.others
