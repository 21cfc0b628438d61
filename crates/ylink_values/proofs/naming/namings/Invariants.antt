use Rattle.std.proofs.Common.{◌≡◌, ◌++◌}
use Rattle.yspec.specs.linking.TypeStatements.{namings}
use Rattle.ybase_preorder.specs.View.{row_by}
use Rattle.ylink_grammar.specs.SourceView.{source_view}
use Rattle.ylink_values.specs.KindView.{naming_word, number_by}
use Rattle.ylink_values.proofs.naming.namings.Given as goal

abbrev pub invariant-loop-statement : goal.invariant-loop-statement
invariant-loop-statement l = record {
  more : (goal.iterator-loop-statement).can_next l.statement-iterator;
  ends : (goal.iterator-loop-statement).is_finite l.statement-iterator;
  so_far : l.namings.items ++ namings (naming_word l.kind) (number_by l.kind) (row_by source_view l.statement-iterator)
      ≡ namings (naming_word l.kind) (number_by l.kind) (row_by source_view l.below);
}
