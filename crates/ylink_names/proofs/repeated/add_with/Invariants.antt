use Rattle.std.proofs.Common.{◌≡◌, ◌++◌, map}
use Rattle.yspec.specs.linking.Source.{all_with}
use Rattle.ybase_words.specs.KeywordView.{keyword_view}
use Rattle.ybase_preorder.specs.View.{row_by, label_by}
use Rattle.ylink_grammar.specs.SourceView.{source_view}
use Rattle.ylink_names.proofs.repeated.add_with.Given as goal

abbrev pub invariant-loop-statement : goal.invariant-loop-statement
invariant-loop-statement l = record {
  more : (goal.iterator-loop-statement).can_next l.statement-iterator;
  ends : (goal.iterator-loop-statement).is_finite l.statement-iterator;
  so_far : map (label_by source_view) l.found.items ++ all_with (keyword_view l.keyword) (row_by source_view l.statement-iterator)
      ≡ map (label_by source_view) l.fn.found.items ++ all_with (keyword_view l.keyword) (row_by source_view l.fn.statements);
}
