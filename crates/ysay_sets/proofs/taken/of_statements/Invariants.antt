use Rattle.std.proofs.Common.{◌≡◌, ◌∷◌, [], drop, map}
use Rattle.ytext.specs.View.{row_view, view}
use Rattle.ysay_sets.specs.Taken.{of_entries}
use Rattle.ysay_sets.proofs.taken.of_statements.Given as goal

abbrev pub invariant-loop-statement : goal.invariant-loop-statement
invariant-loop-statement l = of_entries l.line (row_view (l.top ∷ [])) (map (λ s. view s.now) (drop l.statement-index l.statements))
    ≡ of_entries l.line (row_view (l.top ∷ [])) (map (λ s. view s.now) l.statements)
