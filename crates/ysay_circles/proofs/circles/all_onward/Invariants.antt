use Rattle.std.proofs.Common.{◌≡◌, ◌++◌, drop}
use Rattle.std.specs.List.{flat_map}
use Rattle.ysay_circles.specs.Circles.{onward}
use Rattle.ysay_circles.specs.WayView.{edges_view, ways_view}
use Rattle.ysay_circles.proofs.circles.all_onward.Given as goal

abbrev pub invariant-loop-way : goal.invariant-loop-way
invariant-loop-way l = ways_view l.found.items ++ flat_map (onward (edges_view l.edges)) (ways_view (drop l.way-index l.ways))
    ≡ flat_map (onward (edges_view l.edges)) (ways_view l.ways)
