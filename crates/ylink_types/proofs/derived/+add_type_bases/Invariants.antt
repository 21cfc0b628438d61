use Rattle.std.proofs.Common.{◌≡◌, ◌≤◌, ◌++◌}
use Rattle.yspec.specs.Forest.{size}
use Rattle.ybase_preorder.specs.View.{row_by, row_view}
use Rattle.ylink_grammar.specs.SourceView.{source_view}
use Rattle.ylink_names.specs.MeaningView.{meaning_at}
use Rattle.ylink_types.specs.DerivedView.{type_bases}
use Rattle.ylink_types.proofs.derived.+add_type_bases.Given as goal

-- what stands below a statement is smaller than its row
abbrev pub decreases-add_type_bases : goal.decreases-add_type_bases
decreases-add_type_bases l = size (row_view l.statements)

abbrev pub invariant-loop-statement : goal.invariant-loop-statement
invariant-loop-statement l = record {
  more : (goal.iterator-loop-statement).can_next l.statement-iterator;
  ends : (goal.iterator-loop-statement).is_finite l.statement-iterator;
  smaller : size (row_view l.statement-iterator) ≤ size (row_view l.fn.statements);
  made : l.made.items ++ type_bases (meaning_at l.meanings) l.in_type (row_by source_view l.statement-iterator)
      ≡ l.fn.made.items ++ type_bases (meaning_at l.meanings) l.in_type (row_by source_view l.fn.statements);
}
