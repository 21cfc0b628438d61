use Rattle.std.proofs.Common.{◌≡◌, ◌++◌, drop, map}
use Rattle.ytext.specs.View.{row_view}
use Rattle.ysay_circles.specs.KindView.{kind_view}
use Rattle.ysay_circles.specs.References.{edges_in}
use Rattle.ysay_circles.specs.WayView.{edges_view}
use Rattle.ysay_circles.proofs.references.edges_in.Given as goal

abbrev pub invariant-loop-statement : goal.invariant-loop-statement
invariant-loop-statement l = edges_view l.found.items ++ edges_in (kind_view l.kind) (map (λ t. t.now) l.own) (row_view (drop l.statement-index l.row))
    ≡ edges_in (kind_view l.kind) (map (λ t. t.now) l.own) (row_view l.fn.row)
