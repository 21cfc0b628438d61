use Rattle.std.proofs.Common.{◌≡◌}
use Rattle.ytext.specs.Scanned.{tokens_left}
use Rattle.ysay_slips.specs.Walk.{stop_of, walk_from}
use Rattle.ysay_slips.specs.WalkView.{walk_view}
use Rattle.ysay_slips.proofs.walk.stop_of.Given as goal

-- the walk over what is left comes to what that over all does
abbrev pub invariant-loop-found : goal.invariant-loop-found
invariant-loop-found l = record {
  more : (goal.iterator-loop-found).can_next l.found-iterator;
  ends : (goal.iterator-loop-found).is_finite l.found-iterator;
  left : walk_from l.text (walk_view l.walk) (tokens_left l.found-iterator) ≡ stop_of l.text;
}
