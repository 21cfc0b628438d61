use Rattle.std.proofs.Common.{◌≡◌}
use Rattle.ybase_preorder.specs.View.{row_by}
use Rattle.ylink_grammar.specs.SourceView.{source_view}
use Rattle.ylink_values.specs.KeptView.{kept_view}
use Rattle.ylink_values.specs.KindView.{are_kept, naming_word}
use Rattle.ylink_values.proofs.naming.is_each_kept.Given as goal

abbrev pub invariant-loop-statement : goal.invariant-loop-statement
invariant-loop-statement l = record {
  more : (goal.iterator-loop-statement).can_next l.statement-iterator;
  ends : (goal.iterator-loop-statement).is_finite l.statement-iterator;
  rest : are_kept (kept_view l.kept) (naming_word l.kind) (row_by source_view l.statement-iterator)
      ≡ are_kept (kept_view l.kept) (naming_word l.kind) (row_by source_view l.below);
}
