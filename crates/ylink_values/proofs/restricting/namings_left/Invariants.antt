use Rattle.std.proofs.Common.{◌≡◌, ◌++◌}
use Rattle.ybase_preorder.specs.View.{row_by}
use Rattle.ylink_grammar.specs.SourceView.{source_view}
use Rattle.ylink_values.specs.KeptView.{kept_view}
use Rattle.ylink_values.specs.KindView.{left_by}
use Rattle.ylink_values.proofs.restricting.namings_left.Given as goal

abbrev pub invariant-loop-statement : goal.invariant-loop-statement
invariant-loop-statement l = record {
  more : (goal.iterator-loop-statement).can_next l.statement-iterator;
  ends : (goal.iterator-loop-statement).is_finite l.statement-iterator;
  so_far : l.namings.items ++ left_by (kept_view l.kept) l.kind l.outer (row_by source_view l.statement-iterator)
      ≡ left_by (kept_view l.kept) l.kind l.outer (row_by source_view l.below);
}
