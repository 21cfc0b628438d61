use Rattle.std.proofs.Common.{◌≡◌}
use Rattle.std.specs.List.{list_all}
use Rattle.yspec.specs.Forest.{row}
use Rattle.yspec.specs.linking.Expansion.{is_borne}
use Rattle.ybase_preorder.specs.View.{row_by}
use Rattle.ybase_words.specs.KeywordView.{keyword_view}
use Rattle.ylink_grammar.specs.SourceView.{source_view}
use Rattle.ylink_grammar.proofs.refining.may_bear.Given as goal

-- all so far, and so all where those that are left are
abbrev pub invariant-loop-statement : goal.invariant-loop-statement
invariant-loop-statement l = record {
  more : (goal.iterator-loop-statement).can_next l.statement-iterator;
  ends : (goal.iterator-loop-statement).is_finite l.statement-iterator;
  so_far : list_all (is_borne (keyword_view l.fn.keyword) (row_by source_view l.fn.given)) (row (row_by source_view l.statement-iterator))
      ≡ list_all (is_borne (keyword_view l.fn.keyword) (row_by source_view l.fn.given)) (row (row_by source_view l.fn.given));
}
