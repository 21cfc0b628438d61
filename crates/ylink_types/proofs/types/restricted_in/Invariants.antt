use Rattle.std.proofs.Common.{◌≡◌}
use Rattle.yspec.specs.linking.TypeStatements.{restricted_in}
use Rattle.ybase_preorder.specs.View.{row_by}
use Rattle.ylink_grammar.specs.SourceView.{source_view}
use Rattle.ylink_types.specs.TypeView.{meant_view}
use Rattle.ylink_types.proofs.types.restricted_in.Given as goal

abbrev pub invariant-loop-statement : goal.invariant-loop-statement
invariant-loop-statement l = record {
  more : (goal.iterator-loop-statement).can_next l.statement-iterator;
  ends : (goal.iterator-loop-statement).is_finite l.statement-iterator;
  made : restricted_in (row_by source_view l.statement-iterator) (meant_view l.made)
      ≡ restricted_in (row_by source_view l.fn.below) (meant_view l.fn.meant);
}
