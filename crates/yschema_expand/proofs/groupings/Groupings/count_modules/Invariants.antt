use Rattle.std.proofs.Common.{◌≡◌, ◌+◌, ◌≤◌, min}
use Rattle.yspec_wide.specs.NodeCounts.{all_counts_in, counted_in_from}
use Rattle.ybase_preorder.specs.View.{row_by}
use Rattle.ylink_grammar.specs.SourceView.{source_view}
use Rattle.yschema_expand.specs.Counting.{many}
use Rattle.yschema_expand.specs.NamedView.{language_of, modules_of}
use Rattle.yschema_expand.proofs.groupings.Groupings.count_modules.Given as goal

-- those so far, with those of the modules that are left
abbrev pub invariant-loop-top : goal.invariant-loop-top
invariant-loop-top l =
    let language = language_of l.named in
    let m = modules_of l.named in
    let counts = all_counts_in language m in
    record {
      more : (goal.iterator-loop-top).can_next l.top-iterator;
      ends : (goal.iterator-loop-top).is_finite l.top-iterator;
      few : l.count ≤ many;
      so_far : min (l.count + counted_in_from language m counts (row_by source_view l.top-iterator)) many ≡ min (counted_in_from language m counts m) many;
    }
