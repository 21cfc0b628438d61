use Rattle.std.proofs.Common.{◌≡◌, drop}
use Rattle.yspec.specs.types.Types.{excluding}
use Rattle.ytype_simple.specs.View.{found_of}
use Rattle.ytype_simple.proofs.simple.excluding.Given as goal

abbrev pub invariant-limits : goal.invariant-limits
invariant-limits l = excluding (drop l.index l.limits) (found_of l.found) ≡ excluding l.limits (found_of l.found)
