use Rattle.std.proofs.Common.{◌≡◌, ◌++◌, drop}
use Rattle.ysay_circles.specs.Circles.{edges_from}
use Rattle.ysay_circles.specs.WayView.{edges_view}
use Rattle.ysay_circles.proofs.circles.edges_from.Given as goal

abbrev pub invariant-loop-edge : goal.invariant-loop-edge
invariant-loop-edge l = edges_view l.found.items ++ edges_from l.name (edges_view (drop l.edge-index l.edges)) ≡ edges_from l.name (edges_view l.edges)
