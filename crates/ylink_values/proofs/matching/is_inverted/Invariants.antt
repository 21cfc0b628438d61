use Rattle.std.proofs.Common.{◌≡◌}
use Rattle.yspec.specs.linking.TypeStatements.{is_inverted}
use Rattle.ybase_preorder.specs.View.{row_by}
use Rattle.ylink_grammar.specs.SourceView.{source_view}
use Rattle.ylink_values.proofs.matching.is_inverted.Given as goal

abbrev pub invariant-loop-statement : goal.invariant-loop-statement
invariant-loop-statement l = record {
  more : (goal.iterator-loop-statement).can_next l.statement-iterator;
  ends : (goal.iterator-loop-statement).is_finite l.statement-iterator;
  rest : is_inverted (row_by source_view l.statement-iterator)
      ≡ is_inverted (row_by source_view l.below);
}
