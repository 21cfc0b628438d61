use Rattle.std.proofs.Common.{◌≡◌, ◌++◌, map}
use Rattle.yspec_wide.specs.Types.{names_kept}
use Rattle.ybase_preorder.specs.View.{row_by}
use Rattle.ylink_grammar.specs.SourceView.{source_view}
use Rattle.ylink_values.specs.KeptView.{kept_view}
use Rattle.ylink_values.specs.KindView.{naming_in, naming_word}
use Rattle.ylink_values.proofs.naming.kept_namings.Given as goal

abbrev pub invariant-loop-statement : goal.invariant-loop-statement
invariant-loop-statement l = record {
  more : (goal.iterator-loop-statement).can_next l.statement-iterator;
  ends : (goal.iterator-loop-statement).is_finite l.statement-iterator;
  so_far : l.namings.items ++ map (naming_in l.names) (names_kept (kept_view l.kept) (naming_word l.kind) (row_by source_view l.statement-iterator))
      ≡ map (naming_in l.names) (names_kept (kept_view l.kept) (naming_word l.kind) (row_by source_view l.below));
}
