use Rattle.std.proofs.Common.{◌≡◌, ◌++◌, drop, map}
use Rattle.ytext.specs.View.{row_view, view}
use Rattle.ysay_nodes.specs.Config.{free}
use Rattle.ysay_nodes.proofs.config.+frees.Given as goal

abbrev pub invariant-add_row_free-loop-statement : goal.invariant-add_row_free-loop-statement
invariant-add_row_free-loop-statement l = map (λ s. view s.now) l.found.items ++ free (row_view (drop l.statement-index l.statements))
    ≡ map (λ s. view s.now) l.fn.found.items ++ free (row_view l.statements)
