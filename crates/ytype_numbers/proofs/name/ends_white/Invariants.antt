use Rattle.std.proofs.Common.{◌≡◌, drop}
use Rattle.yspec.specs.types.Names.{ends_white}
use Rattle.ytype_numbers.proofs.name.ends_white.Given as goal

abbrev pub invariant-rest : goal.invariant-rest
invariant-rest l = ends_white l.white (drop l.byte-index l.rest) ≡ ends_white l.initial.white l.rest
