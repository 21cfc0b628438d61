use Rattle.std.proofs.Common.{◌≡◌, ◌≤◌, ◌++◌, map}
use Rattle.yspec.specs.Forest.{size}
use Rattle.ybase_preorder.specs.View.{row_by, row_view}
use Rattle.ylink_grammar.specs.SourceView.{source_view}
use Rattle.ylink_types.specs.IdentityView.{identity_view, listed_in}
use Rattle.ylink_values.specs.KeptView.{kept_view}
use Rattle.ylink_types.proofs.identities.+add_identities.Given as goal

-- what stands below a statement is smaller than its row
abbrev pub decreases-add_identities : goal.decreases-add_identities
decreases-add_identities l = size (row_view l.statements)

abbrev pub invariant-loop-statement : goal.invariant-loop-statement
invariant-loop-statement l = record {
  more : (goal.iterator-loop-statement).can_next l.statement-iterator;
  ends : (goal.iterator-loop-statement).is_finite l.statement-iterator;
  smaller : size (row_view l.statement-iterator) ≤ size (row_view l.fn.statements);
  made : map identity_view l.made.items ++ listed_in (kept_view l.kept) (row_by source_view l.statement-iterator)
      ≡ map identity_view l.fn.made.items ++ listed_in (kept_view l.kept) (row_by source_view l.fn.statements);
}
