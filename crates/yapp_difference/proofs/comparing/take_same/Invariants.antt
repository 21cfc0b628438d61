use Rattle.std.proofs.Common.{◌≡◌, List}
use Rattle.yspec.specs.document.Fault.{Fault}
use Rattle.yspec_session.specs.Carrying.{difference}
use Rattle.ycheck.specs.View.{views}
use Rattle.yapp_difference.specs.Keys.{Key}
use Rattle.yapp_difference.specs.Counting.{all_of, among, taken_of, with_all_gone, without}
use Rattle.yapp_difference.specs.Turning.{turn_views}
use Rattle.yapp_difference.proofs.comparing.take_same.Given as goal

abbrev pub invariant-loop-fault : goal.invariant-loop-fault
invariant-loop-fault l = let t = turn_views l.turns in
    record {
      all : (k : Key) → all_of l.counts k ≡ all_of l.fn.counts k;
      taken : (later : List Fault) → ((k : Key) → all_of l.fn.counts k ≡ among later k)
          → with_all_gone (views l.gone.items) (difference t (views l.fault-iterator.rest.items) (without (taken_of l.counts) later))
          ≡ difference t (views l.fn.faults.items) (without (taken_of l.fn.counts) later);
    }
