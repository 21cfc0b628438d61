use Rattle.std.proofs.Common.{◌≡◌, ◌≤◌, false, true}
use Rattle.yspec.specs.Forest.{size}
use Rattle.yspec.specs.schema.Breaks.{least_from}
use Rattle.ybase_preorder.specs.View.{row_by, row_view}
use Rattle.ylink_grammar.specs.BreakView.{seen}
use Rattle.ylink_grammar.specs.SourceView.{source_view}
use Rattle.yschema_expand.specs.Counting.{refine_by, top_breaks}
use Rattle.yschema_expand.specs.NamedView.{language_of, modules_of}
use Rattle.yschema_expand.proofs.groupings.+emptied.Given as goal

abbrev pub decreases-least_used : goal.decreases-least_used
decreases-least_used l = size (row_view l.statements)

abbrev pub decreases-least_inner : goal.decreases-least_inner
decreases-least_inner l = size (row_view l.statements)

-- the least of those so far, and then of those that are left
abbrev pub invariant-least_used-loop-statement : goal.invariant-least_used-loop-statement
invariant-least_used-loop-statement l =
    let told = refine_by l.refines (modules_of l.named) in
    record {
      more : (goal.iterator-least_used-loop-statement).can_next l.statement-iterator;
      ends : (goal.iterator-least_used-loop-statement).is_finite l.statement-iterator;
      smaller : size (row_view l.statement-iterator) ≤ size (row_view l.fn.statements);
      so_far : least_from (seen l.told) (top_breaks (language_of l.named) told false (row_by source_view l.statement-iterator))
          ≡ least_from (seen l.fn.so_far) (top_breaks (language_of l.named) told false (row_by source_view l.fn.statements));
    }

abbrev pub invariant-least_inner-loop-statement : goal.invariant-least_inner-loop-statement
invariant-least_inner-loop-statement l =
    let told = refine_by l.refines (modules_of l.named) in
    record {
      more : (goal.iterator-least_inner-loop-statement).can_next l.statement-iterator;
      ends : (goal.iterator-least_inner-loop-statement).is_finite l.statement-iterator;
      smaller : size (row_view l.statement-iterator) ≤ size (row_view l.fn.statements);
      so_far : least_from (seen l.told) (top_breaks (language_of l.named) told true (row_by source_view l.statement-iterator))
          ≡ least_from (seen l.fn.so_far) (top_breaks (language_of l.named) told true (row_by source_view l.fn.statements));
    }
