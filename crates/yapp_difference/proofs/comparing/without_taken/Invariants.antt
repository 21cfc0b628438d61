use Rattle.std.proofs.Common.{◌≡◌, ◌++◌}
use Rattle.ycheck.specs.View.{views}
use Rattle.yapp_difference.specs.Counting.{taken_of, without}
use Rattle.yapp_difference.proofs.comparing.without_taken.Given as goal

abbrev pub invariant-loop-fault : goal.invariant-loop-fault
invariant-loop-fault l = views l.left.items ++ without (taken_of l.counts) (views l.fault-iterator.rest.items)
    ≡ without (taken_of l.fn.counts) (views l.fn.faults.items)
