use Rattle.std.proofs.Common.{◌≡◌, drop}
use Rattle.ytext.specs.View.{modules_view, row_view}
use Rattle.ysay_text.specs.Labels.{labels}
use Rattle.ysay_names.specs.Names.{of_statements}
use Rattle.ysay_names.proofs.named.of_statements.Given as goal

abbrev pub invariant-loop-statement : goal.invariant-loop-statement
invariant-loop-statement l = of_statements (modules_view l.modules) (row_view l.row) (labels (drop l.statement-index l.statements))
    ≡ of_statements (modules_view l.modules) (row_view l.row) (labels l.statements)
