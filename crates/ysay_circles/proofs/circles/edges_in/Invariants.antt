use Rattle.std.proofs.Common.{◌≡◌, ◌++◌, drop}
use Rattle.std.specs.List.{flat_map}
use Rattle.ysay_circles.specs.Circles.{if_in}
use Rattle.ysay_circles.specs.WayView.{edges_view}
use Rattle.ysay_circles.proofs.circles.edges_in.Given as goal

abbrev pub invariant-loop-edge : goal.invariant-loop-edge
invariant-loop-edge l = edges_view l.found.items ++ flat_map (if_in l.line) (edges_view (drop l.edge-index l.edges)) ≡ flat_map (if_in l.line) (edges_view l.edges)
