use Rattle.std.proofs.Common.{length}
use Rattle.ytype_numbers.specs.Covering.{CoverAlike}
use Rattle.ytype_numbers.proofs.restriction.without_parts_below.Given as goal

abbrev pub invariant-loop-first : goal.invariant-loop-first
invariant-loop-first l = CoverAlike l.part.low l.left l.parts

abbrev pub decreases-loop-first : goal.decreases-loop-first
decreases-loop-first l = length l.left
