use Rattle.std.proofs.Common.{◌≡◌}
use Rattle.std.specs.List.{list_any}
use Rattle.yspec.specs.Forest.{row}
use Rattle.yspec.specs.linking.Scopes.{is_definition}
use Rattle.ybase_preorder.specs.View.{row_by}
use Rattle.ylink_grammar.specs.SourceView.{source_view}
use Rattle.ylink_names.proofs.definitions.has_definitions.Given as goal

abbrev pub invariant-loop-statement : goal.invariant-loop-statement
invariant-loop-statement l = record {
  more : (goal.iterator-loop-statement).can_next l.statement-iterator;
  ends : (goal.iterator-loop-statement).is_finite l.statement-iterator;
  rest : list_any is_definition (row (row_by source_view l.statement-iterator))
      ≡ list_any is_definition (row (row_by source_view l.statements));
}
