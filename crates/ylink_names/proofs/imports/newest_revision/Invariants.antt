use Rattle.std.proofs.Common.{◌≡◌, map}
use Rattle.yspec.specs.linking.Keyword.{revision_word}
use Rattle.yspec.specs.linking.Imports.{newest_from, newest_revision}
use Rattle.yspec.specs.linking.Source.{argument_in, all_with}
use Rattle.ybase_preorder.specs.View.{row_by}
use Rattle.ylink_grammar.specs.SourceView.{source_view}
use Rattle.ylink_names.specs.RevisionView.{date_view}
use Rattle.ylink_names.proofs.imports.newest_revision.Given as goal

abbrev pub invariant-loop-statement : goal.invariant-loop-statement
invariant-loop-statement l = record {
  more : (goal.iterator-loop-statement).can_next l.statement-iterator;
  ends : (goal.iterator-loop-statement).is_finite l.statement-iterator;
  so_far : newest_from (date_view l.newest) (map argument_in (all_with revision_word (row_by source_view l.statement-iterator)))
      ≡ newest_revision (row_by source_view l.fn.body);
}
