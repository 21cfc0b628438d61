use Rattle.std.proofs.Common.{◌≡◌}
use Rattle.yspec.specs.linking.TypeStatements.{matched_in}
use Rattle.ybase_preorder.specs.View.{row_by}
use Rattle.ylink_grammar.specs.SourceView.{source_view}
use Rattle.ylink_values.proofs.matching.matched_type.Given as goal

abbrev pub invariant-loop-statement : goal.invariant-loop-statement
invariant-loop-statement l = record {
  more : (goal.iterator-loop-statement).can_next l.statement-iterator;
  ends : (goal.iterator-loop-statement).is_finite l.statement-iterator;
  made : matched_in (row_by source_view l.statement-iterator) l.made
      ≡ matched_in (row_by source_view l.fn.below) l.fn.outer;
}
