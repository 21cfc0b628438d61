use Rattle.std.proofs.Common.{◌≡◌}
use Rattle.std.specs.List.{list_all}
use Rattle.yspec.specs.Forest.{row}
use Rattle.yspec_wide.specs.Expansion.{is_remark}
use Rattle.ybase_preorder.specs.View.{row_by}
use Rattle.ylink_grammar.specs.SourceView.{source_view}
use Rattle.yschema_given.proofs.conditions.are_remarks.Given as goal

-- among those that are left
abbrev pub invariant-loop-statement : goal.invariant-loop-statement
invariant-loop-statement l = record {
  more : (goal.iterator-loop-statement).can_next l.statement-iterator;
  ends : (goal.iterator-loop-statement).is_finite l.statement-iterator;
  so_far : list_all is_remark (row (row_by source_view l.statement-iterator)) ≡ list_all is_remark (row (row_by source_view l.fn.statements));
}
