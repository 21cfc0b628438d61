use Rattle.std.proofs.Common.{◌≡◌, ◌≤◌, ◌++◌, List, map}
use Rattle.yspec.specs.Forest.{Forest, size}
use Rattle.yspec.specs.linking.Circles.{referring}
use Rattle.yspec.specs.linking.Keyword.{typedef_word, grouping_word, identity_word}
use Rattle.yspec.specs.linking.Source.{Source}
use Rattle.yspec.specs.linking.Scopes.{placed}
use Rattle.ybase_preorder.specs.View.{row_by, row_view}
use Rattle.ylink_grammar.specs.SourceView.{source_view}
use Rattle.ylink_names.specs.ReferringView.{innermost_of}
use Rattle.ylink_names.proofs.referring.+add_holders.Given as goal

-- what stands below a statement is smaller than its row
abbrev pub decreases-add_holders : goal.decreases-add_holders
decreases-add_holders l = size (row_view l.statements)

abbrev pub invariant-loop-statement : goal.invariant-loop-statement
invariant-loop-statement l = record {
  more : (goal.iterator-loop-statement).can_next l.statement-iterator;
  ends : (goal.iterator-loop-statement).is_finite l.statement-iterator;
  smaller : size (row_view l.statement-iterator) ≤ size (row_view l.fn.statements);
  made : (ancestors : List (Source × Forest Source)) → l.typedef ≡ innermost_of typedef_word ancestors → l.grouping ≡ innermost_of grouping_word ancestors
      → l.identity ≡ innermost_of identity_word ancestors
      → l.made.items ++ map referring (placed ancestors (row_by source_view l.statement-iterator))
      ≡ l.fn.made.items ++ map referring (placed ancestors (row_by source_view l.fn.statements));
}
