use Rattle.std.proofs.Common.{◌≡◌, ◌++◌, drop, map}
use Rattle.ytext.specs.View.{row_view}
use Rattle.ysay_circles.specs.KindView.{kind_view}
use Rattle.ysay_circles.specs.References.{edges_below}
use Rattle.ysay_circles.specs.WayView.{edges_view}
use Rattle.ysay_circles.proofs.references.+references.Given as goal

abbrev pub invariant-add_edges_below-loop-statement : goal.invariant-add_edges_below-loop-statement
invariant-add_edges_below-loop-statement l =
    edges_view l.found.items ++ edges_below (kind_view l.kind) (map (λ t. t.now) l.own) l.name (row_view (drop l.statement-index l.statements))
    ≡ edges_view l.fn.found.items ++ edges_below (kind_view l.kind) (map (λ t. t.now) l.own) l.name (row_view l.statements)
