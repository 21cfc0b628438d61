use Rattle.std.proofs.Common.{◌≡◌, ◌++◌, [], drop}
use Rattle.ytext.specs.View.{modules_view}
use Rattle.ysay_circles.specs.Circles as kind
use Rattle.ysay_circles.specs.References.{edges_in}
use Rattle.ysay_circles.specs.WayView.{edges_view}
use Rattle.ysay_circles.proofs.references.imports_in.Given as goal

abbrev pub invariant-loop-module : goal.invariant-loop-module
invariant-loop-module l = edges_view l.found.items ++ edges_in kind.modules [] (modules_view (drop l.module-index l.modules))
    ≡ edges_in kind.modules [] (modules_view l.fn.modules)
