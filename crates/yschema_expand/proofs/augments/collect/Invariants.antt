use Rattle.std.proofs.Common.{◌≡◌, ◌++◌}
use Rattle.yspec.specs.linking.Augments.{augments_in}
use Rattle.ybase_preorder.specs.View.{row_by}
use Rattle.ylink_grammar.specs.SourceView.{source_view}
use Rattle.yschema_expand.specs.AugmentView.{augments_seen}
use Rattle.yschema_expand.proofs.augments.collect.Given as goal

-- those so far, with those of the statements that are left
abbrev pub invariant-loop-statement : goal.invariant-loop-statement
invariant-loop-statement l = record {
  more : (goal.iterator-loop-statement).can_next l.statement-iterator;
  ends : (goal.iterator-loop-statement).is_finite l.statement-iterator;
  so_far : augments_seen l.augments.items ++ augments_in (row_by source_view l.statement-iterator)
      ≡ augments_seen l.fn.augments.items ++ augments_in (row_by source_view l.fn.statements);
}
