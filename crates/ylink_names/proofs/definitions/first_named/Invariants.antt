use Rattle.std.proofs.Common.{◌≡◌}
use Rattle.yspec.specs.Forest.{row, first_of}
use Rattle.yspec.specs.text.Text.{Text}
use Rattle.ybase_preorder.specs.View.{row_by}
use Rattle.ybase_words.specs.KeywordView.{keyword_view}
use Rattle.ylink_grammar.specs.SourceView.{source_view}
use Rattle.ylink_names.specs.DefinitionView.{first_number}
use Rattle.ylink_names.specs.FirstNamedView.{named}
use Rattle.ylink_names.proofs.definitions.first_named.Given as goal

abbrev pub invariant-loop-statement : goal.invariant-loop-statement
invariant-loop-statement l = record {
  more : (goal.iterator-loop-statement).can_next l.statement-iterator;
  ends : (goal.iterator-loop-statement).is_finite l.statement-iterator;
  named : (name : Text) → first_of (named l.names name) (first_number (keyword_view l.keyword) name (row (row_by source_view l.statement-iterator)))
      ≡ first_number (keyword_view l.keyword) name (row (row_by source_view l.fn.statements));
}
