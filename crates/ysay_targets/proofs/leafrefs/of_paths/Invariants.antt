use Rattle.std.proofs.Common.{◌≡◌, drop, map}
use Rattle.ytext.specs.View.{modules_view, row_view}
use Rattle.ysay_targets.specs.Leafrefs.{of_paths}
use Rattle.ysay_targets.proofs.leafrefs.of_paths.Given as goal

abbrev pub invariant-loop-path : goal.invariant-loop-path
invariant-loop-path l = of_paths (modules_view l.modules) (row_view l.row) (map (λ t. t.now) (drop l.path-index l.paths))
    ≡ of_paths (modules_view l.modules) (row_view l.row) (map (λ t. t.now) l.paths)
