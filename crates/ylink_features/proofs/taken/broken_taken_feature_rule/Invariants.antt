use Rattle.std.proofs.Common.{◌≡◌}
use Rattle.yspec.specs.schema.Breaks.{least_from}
use Rattle.yspec_wide.specs.Features.{taken_feature_breaks}
use Rattle.ybase_preorder.specs.View.{row_by}
use Rattle.ylink_grammar.specs.BreakView.{seen}
use Rattle.ylink_grammar.specs.LanguageView.{language_view}
use Rattle.ylink_grammar.specs.LinkView.{view}
use Rattle.ylink_grammar.specs.SourceView.{source_view}
use Rattle.ylink_features.proofs.taken.broken_taken_feature_rule.Given as goal

abbrev pub invariant-loop-top : goal.invariant-loop-top
invariant-loop-top l = record {
  more : (goal.iterator-loop-top).can_next l.top-iterator;
  ends : (goal.iterator-loop-top).is_finite l.top-iterator;
  so_far : least_from (seen l.told) (taken_feature_breaks (language_view l.language) (row_by source_view l.top-iterator))
      ≡ least_from (seen l.fn.so_far) (taken_feature_breaks (language_view l.language) (view l.sources));
}
