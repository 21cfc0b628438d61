use Rattle.std.proofs.Common.{◌≡◌, drop}
use Rattle.ytext.specs.View.{row_view}
use Rattle.yspec_wide.specs.Language.{version_below}
use Rattle.ylink_grammar.proofs.grammar.version_below.Given as goal

abbrev pub invariant-loop-statement : goal.invariant-loop-statement
invariant-loop-statement l = version_below (row_view (drop l.statement-index l.statements)) ≡ version_below (row_view l.statements)
