use Rattle.std.proofs.Common.{◌≡◌}
use Rattle.ybase_preorder.specs.View.{row_by}
use Rattle.ylink_grammar.specs.SourceView.{source_view}
use Rattle.yschema_given.specs.Holding as spec
use Rattle.yschema_given.proofs.holding.kept_hold.Given as goal

-- among those that are left
abbrev pub invariant-loop-statement : goal.invariant-loop-statement
invariant-loop-statement l = record {
  more : (goal.iterator-loop-statement).can_next l.statement-iterator;
  ends : (goal.iterator-loop-statement).is_finite l.statement-iterator;
  so_far : spec.kept_hold (spec.holds_in l.holding) (row_by source_view l.statement-iterator) ≡ spec.kept_hold (spec.holds_in l.holding) (row_by source_view l.fn.statements);
}
