use Rattle.std.proofs.Common.{◌≡◌, ◌++◌}
use Rattle.ybase_preorder.specs.View.{row_by}
use Rattle.ylink_grammar.specs.SourceView.{source_view}
use Rattle.ylink_names.specs.MeaningView.{meaning_at}
use Rattle.ylink_types.specs.DerivedView.{bases_by}
use Rattle.ylink_types.proofs.derived.bases_in.Given as goal

abbrev pub invariant-loop-statement : goal.invariant-loop-statement
invariant-loop-statement l = record {
  more : (goal.iterator-loop-statement).can_next l.statement-iterator;
  ends : (goal.iterator-loop-statement).is_finite l.statement-iterator;
  so_far : l.bases.items ++ bases_by (meaning_at l.meanings) (row_by source_view l.statement-iterator)
      ≡ bases_by (meaning_at l.meanings) (row_by source_view l.fn.below);
}
