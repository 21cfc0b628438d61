use Rattle.std.proofs.Common.{◌≡◌}
use Rattle.yspec_wide.specs.Sources.{bears_condition}
use Rattle.ybase_preorder.specs.View.{row_by}
use Rattle.ylink_grammar.specs.LanguageView.{language_view}
use Rattle.ylink_grammar.specs.SourceView.{source_view}
use Rattle.ylink_values.proofs.kept.bears_condition.Given as goal

abbrev pub invariant-loop-statement : goal.invariant-loop-statement
invariant-loop-statement l = record {
  more : (goal.iterator-loop-statement).can_next l.statement-iterator;
  ends : (goal.iterator-loop-statement).is_finite l.statement-iterator;
  rest : bears_condition (language_view l.language) (row_by source_view l.statement-iterator)
      ≡ bears_condition (language_view l.language) (row_by source_view l.below);
}
