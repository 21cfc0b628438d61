use Rattle.std.proofs.Common.{◌≡◌, take}
use Rattle.yspec.specs.types.Restriction.{left_after}
use Rattle.ytype_simple.proofs.simple.left_after.Given as goal

abbrev pub invariant-loop-count : goal.invariant-loop-count
invariant-loop-count l = left_after l.parts (take l.count l.limits) ≡ left_after l.parts l.limits

abbrev pub decreases-loop-count : goal.decreases-loop-count
decreases-loop-count l = l.count
