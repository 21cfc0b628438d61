use Rattle.std.proofs.Common.{◌≡◌, ◌++◌, length, map, option_map}
use Rattle.ybase_preorder.specs.View.{row_by}
use Rattle.ylink_conditions.specs.View.{version_view}
use Rattle.ylink_grammar.specs.LinkView.{view}
use Rattle.ylink_grammar.specs.SourceView.{source_view}
use Rattle.ylink_names.specs.PlaceView.{by_place}
use Rattle.ylink_features.specs.VersionView.{stated_in}
use Rattle.ylink_features.proofs.versions.stated_versions.Given as goal

abbrev pub invariant-loop-top : goal.invariant-loop-top
invariant-loop-top l = record {
  more : (goal.iterator-loop-top).can_next l.top-iterator;
  ends : (goal.iterator-loop-top).is_finite l.top-iterator;
  so_far : map (option_map version_view) l.made.items ++ by_place stated_in (length l.made.items) (row_by source_view l.top-iterator)
      ≡ by_place stated_in 0 (view l.sources);
}
