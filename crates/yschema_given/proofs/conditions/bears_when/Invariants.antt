use Rattle.std.proofs.Common.{◌≡◌}
use Rattle.yspec_wide.specs.Sources.{bears_when}
use Rattle.ybase_preorder.specs.View.{row_by}
use Rattle.ylink_grammar.specs.LanguageView.{language_view}
use Rattle.ylink_grammar.specs.SourceView.{source_view}
use Rattle.yschema_given.proofs.conditions.bears_when.Given as goal

-- among those that are left
abbrev pub invariant-loop-statement : goal.invariant-loop-statement
invariant-loop-statement l = record {
  more : (goal.iterator-loop-statement).can_next l.statement-iterator;
  ends : (goal.iterator-loop-statement).is_finite l.statement-iterator;
  so_far : bears_when (language_view l.language) (row_by source_view l.statement-iterator)
      ≡ bears_when (language_view l.language) (row_by source_view l.fn.statements);
}
