use Rattle.std.proofs.Common.{◌≡◌, ◌+◌, ◌*◌, ◌≤◌, min}
use Rattle.yspec.specs.Forest.{size}
use Rattle.yspec_wide.specs.NodeCounts.{counted_below}
use Rattle.ybase_preorder.specs.View.{row_by, row_view}
use Rattle.ybase_words.specs.KeywordView.{keyword_view}
use Rattle.ylink_grammar.specs.SourceView.{source_view}
use Rattle.yschema_expand.specs.Counting.{count_by, many}
use Rattle.yschema_expand.specs.NamedView.{language_of, modules_of}
use Rattle.yschema_expand.proofs.counting.+counting.Given as goal

abbrev pub decreases-count_nodes : goal.decreases-count_nodes
decreases-count_nodes l = 3 * size (row_view l.statements)

abbrev pub decreases-count_statement : goal.decreases-count_statement
decreases-count_statement l = 3 * size (row_view l.statement.children) + 2

abbrev pub decreases-count_inner : goal.decreases-count_inner
decreases-count_inner l = 3 * size (row_view l.statement.children) + 1

abbrev pub decreases-count_alone : goal.decreases-count_alone
decreases-count_alone l = 3 * size (row_view l.statement.children) + 1

-- those so far, with those that are left
abbrev pub invariant-count_nodes-loop-statement : goal.invariant-count_nodes-loop-statement
invariant-count_nodes-loop-statement l =
    let language = language_of l.named in
    let meant = count_by l.counts (modules_of l.named) in
    record {
      more : (goal.iterator-count_nodes-loop-statement).can_next l.statement-iterator;
      ends : (goal.iterator-count_nodes-loop-statement).is_finite l.statement-iterator;
      smaller : size (row_view l.statement-iterator) ≤ size (row_view l.fn.statements);
      few : l.count ≤ many;
      so_far : min (l.count + counted_below language meant (keyword_view l.above) (row_by source_view l.statement-iterator)) many
          ≡ min (counted_below language meant (keyword_view l.above) (row_by source_view l.fn.statements)) many;
    }
