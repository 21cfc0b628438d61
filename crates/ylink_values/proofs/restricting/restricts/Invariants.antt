use Rattle.std.proofs.Common.{◌≡◌}
use Rattle.std.specs.List.{list_any}
use Rattle.yspec.specs.Forest.{row}
use Rattle.yspec.specs.linking.TypeStatements.{is_restricting}
use Rattle.ybase_preorder.specs.View.{row_by}
use Rattle.ylink_grammar.specs.SourceView.{source_view}
use Rattle.ylink_values.specs.KindView.{naming_text}
use Rattle.ylink_values.proofs.restricting.restricts.Given as goal

abbrev pub invariant-loop-statement : goal.invariant-loop-statement
invariant-loop-statement l = record {
  more : (goal.iterator-loop-statement).can_next l.statement-iterator;
  ends : (goal.iterator-loop-statement).is_finite l.statement-iterator;
  rest : list_any (is_restricting (naming_text l.kind)) (row (row_by source_view l.statement-iterator))
      ≡ list_any (is_restricting (naming_text l.kind)) (row (row_by source_view l.below));
}
