use Rattle.std.proofs.Common.{◌≡◌, ◌++◌, map}
use Rattle.ybase_preorder.specs.View.{row_by}
use Rattle.ylink_grammar.specs.LinkView.{view}
use Rattle.ylink_grammar.specs.SourceView.{source_view}
use Rattle.ylink_names.specs.RevisionView.{date_view, revisions_of}
use Rattle.ylink_names.proofs.imports.newest_revisions.Given as goal

abbrev pub invariant-loop-top : goal.invariant-loop-top
invariant-loop-top l = record {
  more : (goal.iterator-loop-top).can_next l.top-iterator;
  ends : (goal.iterator-loop-top).is_finite l.top-iterator;
  so_far : map date_view l.newest.items ++ revisions_of (row_by source_view l.top-iterator) ≡ revisions_of (view l.sources);
}
