use Rattle.std.proofs.Common.{◌≡◌, drop}
use Rattle.std.specs.List.{list_any}
use Rattle.yspec.specs.Forest.{row}
use Rattle.ytext.specs.View.{row_view}
use Rattle.ysay_names.specs.Rows.{is_named}
use Rattle.ysay_targets.proofs.steps.has_named.Given as goal

abbrev pub invariant-loop-statement : goal.invariant-loop-statement
invariant-loop-statement l = list_any (is_named l.name) (row (row_view (drop l.statement-index l.statements))) ≡ list_any (is_named l.name) (row (row_view l.statements))
