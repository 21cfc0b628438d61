use Rattle.std.proofs.Common.{◌≡◌, ◌≤◌, ◌++◌, List, map}
use Rattle.yspec.specs.Forest.{Forest, size}
use Rattle.yspec.specs.linking.DerivedTypes.{is_member}
use Rattle.yspec.specs.linking.Source.{Source}
use Rattle.yspec.specs.linking.Scopes.{placed}
use Rattle.ybase_preorder.specs.View.{row_by, row_view}
use Rattle.ylink_grammar.specs.LinkView.{view}
use Rattle.ylink_grammar.specs.SourceView.{source_view}
use Rattle.ylink_types.specs.TypeView.{verdict_view}
use Rattle.ylink_types.specs.TypedefView.{verdicts_in}
use Rattle.ylink_values.specs.KeptView.{kept_view}
use Rattle.ylink.specs.VerdictView.{judged_of, members_below, table_view}
use Rattle.ylink.proofs.verdicts.+add_verdicts.Given as goal

-- what stands below a statement is smaller than its row
abbrev pub decreases-add_verdicts : goal.decreases-add_verdicts
decreases-add_verdicts l = size (row_view l.statements)

abbrev pub invariant-loop-statement : goal.invariant-loop-statement
invariant-loop-statement l = record {
  more : (goal.iterator-loop-statement).can_next l.statement-iterator;
  ends : (goal.iterator-loop-statement).is_finite l.statement-iterator;
  smaller : size (row_view l.statement-iterator) ≤ size (row_view l.fn.statements);
  members : map verdict_view l.members.items
      ++ members_below (kept_view l.kept) (view l.sources) (verdicts_in l.typedefs) l.in_union (row_by source_view l.statement-iterator)
      ≡ members_below (kept_view l.kept) (view l.sources) (verdicts_in l.typedefs) l.in_union (row_by source_view l.fn.statements);
  table : (ancestors : List (Source × Forest Source)) → l.in_union ≡ is_member ancestors
      → table_view l.table.items ++ map (judged_of (kept_view l.kept) (view l.sources) (verdicts_in l.typedefs)) (placed ancestors (row_by source_view l.statement-iterator))
      ≡ table_view l.fn.table.items ++ map (judged_of (kept_view l.kept) (view l.sources) (verdicts_in l.typedefs)) (placed ancestors (row_by source_view l.fn.statements));
}
