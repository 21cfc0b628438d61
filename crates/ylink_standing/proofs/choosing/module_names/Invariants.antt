use Rattle.std.proofs.Common.{◌≡◌, ◌++◌, map}
use Rattle.yspec.specs.Forest.{row}
use Rattle.yspec.specs.linking.Source.{argument_in}
use Rattle.ybase_preorder.specs.View.{row_by}
use Rattle.ylink_grammar.specs.LinkView.{view}
use Rattle.ylink_grammar.specs.SourceView.{source_view}
use Rattle.ylink_standing.proofs.choosing.module_names.Given as goal

abbrev pub invariant-loop-top : goal.invariant-loop-top
invariant-loop-top l = record {
  more : (goal.iterator-loop-top).can_next l.top-iterator;
  ends : (goal.iterator-loop-top).is_finite l.top-iterator;
  so_far : map (λ t. t.now) l.names.items ++ map argument_in (row (row_by source_view l.top-iterator)) ≡ map argument_in (row (view l.sources));
}
