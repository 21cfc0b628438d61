use Rattle.std.proofs.Common.{◌≡◌, drop}
use Rattle.ytext.specs.View.{row_view}
use Rattle.ysay_nodes.specs.Config.{config_line}
use Rattle.ysay_nodes.proofs.config.config_line.Given as goal

abbrev pub invariant-loop-statement : goal.invariant-loop-statement
invariant-loop-statement l = config_line l.text (row_view (drop l.statement-index l.row)) ≡ config_line l.text (row_view l.row)
