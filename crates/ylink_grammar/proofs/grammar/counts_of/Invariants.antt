use Rattle.std.proofs.Common.{◌≡◌, ◌+◌, ◌≤◌, drop, length}
use Rattle.yspec.specs.linking.Keyword.{Keyword}
use Rattle.yspec.specs.linking.StatementBreaks.{occurrences}
use Rattle.ytext.specs.View.{row_view}
use Rattle.ylink_grammar.specs.Counts.{count_at}
use Rattle.ylink_grammar.proofs.grammar.counts_of.Given as goal

abbrev pub invariant-loop-statement : goal.invariant-loop-statement
invariant-loop-statement l = record {
  long : length l.counts ≡ 48;
  counted : (k : Keyword) → count_at l.counts k + occurrences k (row_view (drop l.statement-index l.statements)) ≡ occurrences k (row_view l.statements);
  few : (k : Keyword) → count_at l.counts k ≤ l.statement-index;
}
