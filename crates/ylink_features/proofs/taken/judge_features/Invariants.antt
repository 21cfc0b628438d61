use Rattle.std.proofs.Common.{◌≡◌, List, []}
use Rattle.yspec.specs.text.Text.{Text}
use Rattle.yspec.specs.schema.Breaks.{least_from}
use Rattle.yspec_wide.specs.Features.{doubled_features, features_in}
use Rattle.ybase_preorder.specs.View.{row_by}
use Rattle.ylink_grammar.specs.BreakView.{seen}
use Rattle.ylink_grammar.specs.LanguageView.{language_view}
use Rattle.ylink_grammar.specs.SourceView.{source_view}
use Rattle.ylink_names.proofs.RepeatedLemmas.{AreHeld}
use Rattle.ylink_features.proofs.taken.judge_features.Given as goal

abbrev pub invariant-loop-statement : goal.invariant-loop-statement
invariant-loop-statement l = record {
  more : (goal.iterator-loop-statement).can_next l.statement-iterator;
  ends : (goal.iterator-loop-statement).is_finite l.statement-iterator;
  so_far : (before : List Text) × AreHeld l.names before
      × (least_from (seen l.told) (doubled_features (language_view l.language) before (features_in (language_view l.language) (row_by source_view l.statement-iterator)))
      ≡ least_from (seen l.fn.so_far) (doubled_features (language_view l.language) [] (features_in (language_view l.language) (row_by source_view l.fn.body))));
}
