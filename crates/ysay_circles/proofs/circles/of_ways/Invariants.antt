use Rattle.std.proofs.Common.{◌≡◌, drop, find}
use Rattle.ysay_circles.specs.Circles.{is_closed}
use Rattle.ysay_circles.specs.WayView.{ways_view}
use Rattle.ysay_circles.proofs.circles.of_ways.Given as goal

abbrev pub invariant-loop-way : goal.invariant-loop-way
invariant-loop-way l = find is_closed (ways_view (drop l.way-index l.ways)) ≡ find is_closed (ways_view l.ways)
