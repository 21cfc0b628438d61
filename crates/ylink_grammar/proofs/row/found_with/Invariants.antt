use Rattle.std.proofs.Common.{◌≡◌}
use Rattle.yspec.specs.linking.Source.{found_with}
use Rattle.ybase_preorder.specs.View.{row_by}
use Rattle.ybase_words.specs.KeywordView.{keyword_view}
use Rattle.ylink_grammar.specs.SourceView.{source_view}
use Rattle.ylink_grammar.proofs.row.found_with.Given as goal

abbrev pub invariant-loop-statement : goal.invariant-loop-statement
invariant-loop-statement l = record {
  more : (goal.iterator-loop-statement).can_next l.statement-iterator;
  ends : (goal.iterator-loop-statement).is_finite l.statement-iterator;
  rest : found_with (keyword_view l.keyword) (row_by source_view l.statement-iterator)
      ≡ found_with (keyword_view l.keyword) (row_by source_view l.statements);
}
