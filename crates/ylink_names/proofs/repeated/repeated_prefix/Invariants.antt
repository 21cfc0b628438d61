use Rattle.std.proofs.Common.{◌≡◌}
use Rattle.yspec.specs.linking.Imports.{repeated_prefixes}
use Rattle.yspec.specs.schema.Breaks.{least_from}
use Rattle.ybase_preorder.specs.View.{row_by}
use Rattle.ylink_grammar.specs.BreakView.{seen}
use Rattle.ylink_grammar.specs.LinkView.{view}
use Rattle.ylink_grammar.specs.SourceView.{source_view}
use Rattle.ylink_names.proofs.repeated.repeated_prefix.Given as goal

abbrev pub invariant-loop-top : goal.invariant-loop-top
invariant-loop-top l = record {
  more : (goal.iterator-loop-top).can_next l.top-iterator;
  ends : (goal.iterator-loop-top).is_finite l.top-iterator;
  so_far : least_from (seen l.told) (repeated_prefixes (row_by source_view l.top-iterator)) ≡ least_from (seen l.fn.so_far) (repeated_prefixes (view l.sources));
}
