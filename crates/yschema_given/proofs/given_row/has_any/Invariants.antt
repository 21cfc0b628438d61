use Rattle.std.proofs.Common.{◌≡◌}
use Rattle.std.specs.List.{list_any}
use Rattle.yspec.specs.Forest.{row}
use Rattle.yspec.specs.linking.Source.{is_source_of}
use Rattle.ybase_preorder.specs.View.{row_by}
use Rattle.ybase_words.specs.KeywordView.{keyword_view}
use Rattle.ylink_grammar.specs.SourceView.{source_view}
use Rattle.yschema_given.proofs.given_row.has_any.Given as goal

-- among those that are left
abbrev pub invariant-loop-statement : goal.invariant-loop-statement
invariant-loop-statement l = record {
  more : (goal.iterator-loop-statement).can_next l.statement-iterator;
  ends : (goal.iterator-loop-statement).is_finite l.statement-iterator;
  so_far : list_any (is_source_of (keyword_view l.keyword)) (row (row_by source_view l.statement-iterator))
      ≡ list_any (is_source_of (keyword_view l.keyword)) (row (row_by source_view l.fn.statements));
}
