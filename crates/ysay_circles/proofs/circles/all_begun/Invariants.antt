use Rattle.std.proofs.Common.{◌≡◌, ◌++◌, drop, map}
use Rattle.ysay_circles.specs.Circles.{begun}
use Rattle.ysay_circles.specs.WayView.{edges_view, ways_view}
use Rattle.ysay_circles.proofs.circles.all_begun.Given as goal

abbrev pub invariant-loop-edge : goal.invariant-loop-edge
invariant-loop-edge l = ways_view l.found.items ++ map begun (edges_view (drop l.edge-index l.edges)) ≡ map begun (edges_view l.edges)
