use Rattle.std.proofs.Common.{◌≡◌, drop}
use Rattle.std.specs.List.{list_any}
use Rattle.yspec.specs.Forest.{row}
use Rattle.yspec.specs.linking.StatementBreaks.{is_current_version}
use Rattle.ytext.specs.View.{row_view}
use Rattle.ylink_grammar.proofs.grammar.has_version.Given as goal

abbrev pub invariant-loop-statement : goal.invariant-loop-statement
invariant-loop-statement l =
    list_any is_current_version (row (row_view (drop l.statement-index l.statements))) ≡ list_any is_current_version (row (row_view l.statements))
