use Rattle.std.proofs.Common.{◌≡◌}
use Rattle.yspec.specs.Forest.{first_of}
use Rattle.yspec.specs.text.Text.{Text}
use Rattle.ybase_preorder.specs.View.{row_by}
use Rattle.ylink_grammar.specs.LanguageView.{language_view}
use Rattle.ylink_grammar.specs.SourceView.{source_view}
use Rattle.ylink_names.specs.FirstNamedView.{named}
use Rattle.ylink_features.specs.FeatureView.{number_named}
use Rattle.ylink_features.proofs.features.features_in.Given as goal

abbrev pub invariant-loop-statement : goal.invariant-loop-statement
invariant-loop-statement l = record {
  more : (goal.iterator-loop-statement).can_next l.statement-iterator;
  ends : (goal.iterator-loop-statement).is_finite l.statement-iterator;
  so_far : (name : Text) → first_of (named l.numbers name) (number_named (language_view l.language) name (row_by source_view l.statement-iterator))
      ≡ number_named (language_view l.language) name (row_by source_view l.fn.body);
}
