use Rattle.std.proofs.Common.{◌≡◌, ◌++◌, length, map}
use Rattle.yspec.specs.text.Text.{Text}
use Rattle.ybase_preorder.specs.View.{row_by}
use Rattle.ylink_grammar.specs.LanguageView.{language_view}
use Rattle.ylink_grammar.specs.LinkView.{view}
use Rattle.ylink_grammar.specs.SourceView.{source_view}
use Rattle.ylink_names.specs.FirstNamedView.{named}
use Rattle.ylink_names.specs.PlaceView.{by_place}
use Rattle.ylink_features.proofs.FeatureLemmas.{named_as}
use Rattle.ylink_features.proofs.features.Features.of.Given as goal

abbrev pub invariant-loop-top : goal.invariant-loop-top
invariant-loop-top l = record {
  more : (goal.iterator-loop-top).can_next l.top-iterator;
  ends : (goal.iterator-loop-top).is_finite l.top-iterator;
  so_far : (name : Text)
      → map (λ numbers. named numbers name) l.by_module.items ++ by_place (named_as (language_view l.language) name) (length l.by_module.items) (row_by source_view l.top-iterator)
      ≡ by_place (named_as (language_view l.language) name) 0 (view l.sources);
}
