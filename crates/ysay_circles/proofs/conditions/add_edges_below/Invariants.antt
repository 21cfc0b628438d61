use Rattle.std.proofs.Common.{◌≡◌, ◌++◌, drop, map}
use Rattle.ytext.specs.View.{row_view}
use Rattle.ysay_circles.specs.Conditions.{edges_below}
use Rattle.ysay_circles.specs.WayView.{edges_view}
use Rattle.ysay_circles.proofs.conditions.add_edges_below.Given as goal

abbrev pub invariant-loop-statement : goal.invariant-loop-statement
invariant-loop-statement l = edges_view l.found.items ++ edges_below (map (λ t. t.now) l.own) l.feature (row_view (drop l.statement-index l.row))
    ≡ edges_view l.fn.found.items ++ edges_below (map (λ t. t.now) l.own) l.feature (row_view l.row)
