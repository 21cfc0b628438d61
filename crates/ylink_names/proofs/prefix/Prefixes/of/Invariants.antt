use Rattle.std.proofs.Common.{◌≡◌, ◌++◌, length, map}
use Rattle.yspec.specs.text.Text.{Text}
use Rattle.ybase_preorder.specs.View.{row_by}
use Rattle.ylink_grammar.specs.LinkView.{view}
use Rattle.ylink_grammar.specs.SourceView.{source_view}
use Rattle.ylink_names.specs.FirstNamedView.{named}
use Rattle.ylink_names.specs.PlaceView.{by_place}
use Rattle.ylink_names.proofs.DeclaredLemmas.{declared_as}
use Rattle.ylink_names.proofs.prefix.Prefixes.of.Given as goal

abbrev pub invariant-loop-top : goal.invariant-loop-top
invariant-loop-top l = record {
  more : (goal.iterator-loop-top).can_next l.top-iterator;
  ends : (goal.iterator-loop-top).is_finite l.top-iterator;
  so_far : (prefix : Text)
      → map (λ table. named table prefix) l.declared.items ++ by_place (declared_as (view l.sources) prefix) (length l.declared.items) (row_by source_view l.top-iterator)
      ≡ by_place (declared_as (view l.sources) prefix) 0 (view l.sources);
}
