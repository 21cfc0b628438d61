use Rattle.std.proofs.Common.{◌≡◌, ◌++◌, drop, map}
use Rattle.ytext.specs.View.{row_view}
use Rattle.ysay_circles.specs.Conditions.{edges_in}
use Rattle.ysay_circles.specs.WayView.{edges_view}
use Rattle.ysay_circles.proofs.conditions.edges_in.Given as goal

abbrev pub invariant-loop-statement : goal.invariant-loop-statement
invariant-loop-statement l = edges_view l.found.items ++ edges_in (map (λ t. t.now) l.own) (row_view (drop l.statement-index l.row))
    ≡ edges_in (map (λ t. t.now) l.own) (row_view l.fn.row)
