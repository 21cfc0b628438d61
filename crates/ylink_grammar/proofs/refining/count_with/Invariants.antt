use Rattle.std.proofs.Common.{◌≡◌, ◌+◌, ◌≤◌, count_by}
use Rattle.yspec.specs.Forest.{row, size}
use Rattle.yspec.specs.linking.Source.{is_source_of}
use Rattle.ybase_preorder.specs.View.{row_by, row_view}
use Rattle.ybase_words.specs.KeywordView.{keyword_view}
use Rattle.ylink_grammar.specs.SourceView.{source_view}
use Rattle.ylink_grammar.proofs.refining.count_with.Given as goal

-- those so far, with those that are left, and no more than there are statements
abbrev pub invariant-loop-statement : goal.invariant-loop-statement
invariant-loop-statement l = record {
  more : (goal.iterator-loop-statement).can_next l.statement-iterator;
  ends : (goal.iterator-loop-statement).is_finite l.statement-iterator;
  few : l.count + size (row_view l.statement-iterator) ≤ size (row_view l.fn.statements);
  so_far : l.count + count_by (is_source_of (keyword_view l.keyword)) (row (row_by source_view l.statement-iterator))
      ≡ count_by (is_source_of (keyword_view l.keyword)) (row (row_by source_view l.fn.statements));
}
