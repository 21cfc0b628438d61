use Rattle.std.proofs.Common.{◌≡◌, ◌++◌, ◌≤◌, map}
use Rattle.yspec.specs.Forest.{size}
use Rattle.yspec_wide.specs.Types.{verdicts_of}
use Rattle.ybase_preorder.specs.View.{row_by, row_view}
use Rattle.ylink_grammar.specs.LinkView.{view}
use Rattle.ylink_grammar.specs.SourceView.{source_view}
use Rattle.ylink_values.specs.KeptView.{kept_view}
use Rattle.ylink_types.specs.TypeView.{verdict_view}
use Rattle.ylink_types.specs.TypedefView.{verdicts_in}
use Rattle.ylink_types.proofs.types.+member_verdicts.Given as goal

-- what stands below a statement is smaller than its row
abbrev pub decreases-member_verdicts : goal.decreases-member_verdicts
decreases-member_verdicts l = size (row_view l.statements)

abbrev pub invariant-loop-statement : goal.invariant-loop-statement
invariant-loop-statement l = record {
  more : (goal.iterator-loop-statement).can_next l.statement-iterator;
  ends : (goal.iterator-loop-statement).is_finite l.statement-iterator;
  smaller : size (row_view l.statement-iterator) ≤ size (row_view l.fn.statements);
  verdicts : map verdict_view l.found.items ++ verdicts_of (kept_view l.kept) (view l.sources) (verdicts_in l.typedefs) (row_by source_view l.statement-iterator)
      ≡ verdicts_of (kept_view l.kept) (view l.sources) (verdicts_in l.typedefs) (row_by source_view l.fn.statements);
}
