use Rattle.std.proofs.Common.{◌≡◌, drop, map}
use Rattle.ytext.specs.View.{modules_view, row_view, view}
use Rattle.ysay_targets.specs.Leafrefs.{of_entries}
use Rattle.ysay_targets.proofs.leafrefs.of_statements.Given as goal

abbrev pub invariant-loop-statement : goal.invariant-loop-statement
invariant-loop-statement l = of_entries l.line (modules_view l.modules) (row_view l.row) (map (λ s. view s.now) (drop l.statement-index l.statements))
    ≡ of_entries l.line (modules_view l.modules) (row_view l.row) (map (λ s. view s.now) l.statements)
