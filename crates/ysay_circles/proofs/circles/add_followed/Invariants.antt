use Rattle.std.proofs.Common.{◌≡◌, ◌++◌, drop, map}
use Rattle.ysay_circles.specs.Circles.{followed}
use Rattle.ysay_circles.specs.WayView.{edges_view, way_view, ways_view}
use Rattle.ysay_circles.proofs.circles.add_followed.Given as goal

abbrev pub invariant-loop-edge : goal.invariant-loop-edge
invariant-loop-edge l = ways_view l.found.items ++ map (followed (way_view l.way)) (edges_view (drop l.edge-index l.edges))
    ≡ ways_view l.fn.found.items ++ map (followed (way_view l.way)) (edges_view l.edges)
