use Rattle.std.proofs.Common.{◌≡◌, ◌++◌, drop}
use Rattle.ytext.specs.View.{row_view}
use Rattle.ysay_text.specs.Labels.{labels}
use Rattle.ysay_names.specs.Rows.{in_line}
use Rattle.ysay_names.proofs.rows.+lines.Given as goal

abbrev pub invariant-add_row_in_line-loop-statement : goal.invariant-add_row_in_line-loop-statement
invariant-add_row_in_line-loop-statement l =
    labels l.found.items ++ in_line l.line (row_view (drop l.statement-index l.statements)) ≡ labels l.fn.found.items ++ in_line l.line (row_view l.statements)
