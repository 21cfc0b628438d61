use Rattle.std.proofs.Common.{◌≡◌}
use Rattle.ybase_preorder.specs.View.{row_by}
use Rattle.ylink_grammar.specs.SourceView.{source_view}
use Rattle.ylink_standing.specs.ConditionView.{all_asked, is_in}
use Rattle.ylink_standing.proofs.standing.all_hold.Given as goal

abbrev pub invariant-loop-statement : goal.invariant-loop-statement
invariant-loop-statement l = record {
  more : (goal.iterator-loop-statement).can_next l.statement-iterator;
  ends : (goal.iterator-loop-statement).is_finite l.statement-iterator;
  rest : all_asked l.conditions (is_in l.on) (row_by source_view l.statement-iterator)
      ≡ all_asked l.conditions (is_in l.on) (row_by source_view l.fn.statements);
}
