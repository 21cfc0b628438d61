use Rattle.std.proofs.Common.{◌≡◌, ◌++◌, drop, string_bytes}
use Rattle.ysay_circles.specs.Circles.{more_text}
use Rattle.ysay_circles.specs.KindView.{kind_view}
use Rattle.ysay_circles.specs.WayView.{edges_view}
use Rattle.ysay_circles.proofs.circles.more_text.Given as goal

abbrev pub invariant-loop-edge : goal.invariant-loop-edge
invariant-loop-edge l = string_bytes l.said ++ more_text (kind_view l.kind) (edges_view (drop l.edge-index l.edges)) ≡ more_text (kind_view l.kind) (edges_view l.edges)
