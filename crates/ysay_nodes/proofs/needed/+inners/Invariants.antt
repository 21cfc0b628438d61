use Rattle.std.proofs.Common.{◌≡◌, ◌++◌, drop, map}
use Rattle.ytext.specs.View.{row_view, view}
use Rattle.ysay_nodes.specs.Needed.{inner_nodes}
use Rattle.ysay_nodes.proofs.needed.+inners.Given as goal

abbrev pub invariant-add_row_inner-loop-statement : goal.invariant-add_row_inner-loop-statement
invariant-add_row_inner-loop-statement l = map (λ s. view s.now) l.found.items ++ inner_nodes (row_view (drop l.statement-index l.statements))
    ≡ map (λ s. view s.now) l.fn.found.items ++ inner_nodes (row_view l.statements)
