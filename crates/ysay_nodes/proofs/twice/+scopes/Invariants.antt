use Rattle.std.proofs.Common.{◌≡◌, ◌++◌, drop}
use Rattle.ytext.specs.View.{row_view}
use Rattle.ysay_text.specs.Labels.{labels}
use Rattle.ysay_nodes.specs.Twice.{scope}
use Rattle.ysay_nodes.proofs.twice.+scopes.Given as goal

abbrev pub invariant-add_row_scope-loop-statement : goal.invariant-add_row_scope-loop-statement
invariant-add_row_scope-loop-statement l =
    labels l.found.items ++ scope (row_view (drop l.statement-index l.statements)) ≡ labels l.fn.found.items ++ scope (row_view l.statements)
