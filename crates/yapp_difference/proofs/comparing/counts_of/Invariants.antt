use Rattle.std.proofs.Common.{◌≡◌, ◌+◌, drop}
use Rattle.ycheck.specs.View.{views}
use Rattle.yapp_difference.specs.Keys.{Key}
use Rattle.yapp_difference.specs.Counting.{all_of, among, taken_of}
use Rattle.yapp_difference.proofs.comparing.counts_of.Given as goal

abbrev pub invariant-loop-fault : goal.invariant-loop-fault
invariant-loop-fault l =
    record {
      all : (k : Key) → all_of l.counts k + among (views (drop l.fault-index l.faults)) k ≡ among (views l.faults) k;
      taken : (k : Key) → taken_of l.counts k ≡ 0;
    }
