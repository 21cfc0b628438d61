use Rattle.std.proofs.Common.{◌≡◌}
use Rattle.yspec.specs.linking.TypeStatements.{are_in_place}
use Rattle.ybase_preorder.specs.View.{row_by}
use Rattle.ylink_grammar.specs.SourceView.{source_view}
use Rattle.ybase_words.specs.BuiltInView.{built_in_view}
use Rattle.ylink_types.proofs.types.are_in_place.Given as goal

abbrev pub invariant-loop-statement : goal.invariant-loop-statement
invariant-loop-statement l = record {
  more : (goal.iterator-loop-statement).can_next l.statement-iterator;
  ends : (goal.iterator-loop-statement).is_finite l.statement-iterator;
  rest : are_in_place (built_in_view l.type_name) (row_by source_view l.statement-iterator)
      ≡ are_in_place (built_in_view l.type_name) (row_by source_view l.below);
}
