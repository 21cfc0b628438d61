use Rattle.std.proofs.Common.{◌≡◌, option_map}
use Rattle.yspec.specs.Forest.{first_of}
use Rattle.yspec.specs.text.Text.{Text}
use Rattle.yspec_wide.specs.Language.{Language}
use Rattle.ybase_preorder.specs.View.{row_by}
use Rattle.ylink_conditions.specs.View.{version_view}
use Rattle.ylink_grammar.specs.LinkView.{view}
use Rattle.ylink_grammar.specs.SourceView.{source_view}
use Rattle.ylink_names.specs.FirstNamedView.{named}
use Rattle.ylink_features.specs.VersionView.{AreVersionsOf, version_called}
use Rattle.ylink_features.proofs.importing.versions_by_name.Given as goal

abbrev pub invariant-loop-top : goal.invariant-loop-top
invariant-loop-top l = record {
  more : (goal.iterator-loop-top).can_next l.top-iterator;
  ends : (goal.iterator-loop-top).is_finite l.top-iterator;
  so_far : (language : Language) → AreVersionsOf l.versions language (view l.sources) → (name : Text)
      → first_of (option_map version_view (named l.by_name name)) (version_called language (view l.sources) (row_by source_view l.top-iterator) name)
      ≡ version_called language (view l.sources) (view l.sources) name;
}
