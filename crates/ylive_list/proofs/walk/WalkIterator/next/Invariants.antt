use Rattle.std.proofs.Common.{◌≡◌}
use Rattle.ylive_list.specs.Walked.{left, visits_at}
use Rattle.ylive_list.proofs.walk.WalkIterator.next.Given as goal

-- turns without a fault leave what is left to give
abbrev pub invariant-loop-seen : goal.invariant-loop-seen
invariant-loop-seen l = left l.self ≡ left l.fn.self

abbrev pub decreases-loop-seen : goal.decreases-loop-seen
decreases-loop-seen l = visits_at l.self l.self.node
