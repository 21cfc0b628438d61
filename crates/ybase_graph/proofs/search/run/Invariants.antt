use Rattle.ybase_graph.specs.Search.{IsSound, IsCounted, KeepsSeen, work_left}
use Rattle.ybase_graph.proofs.search.run.Given as goal

abbrev pub invariant-loop-top : goal.invariant-loop-top
invariant-loop-top l = record {
  sound : IsSound l.graph l.search;
  counted : IsCounted l.graph l.search;
  seen : KeepsSeen l.fn.search l.search;
}

abbrev pub decreases-loop-top : goal.decreases-loop-top
decreases-loop-top l = work_left l.graph l.search
