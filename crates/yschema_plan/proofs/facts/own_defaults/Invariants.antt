use Rattle.std.proofs.Common.{◌≡◌, ◌++◌, map}
use Rattle.yspec.specs.linking.Keyword.{default_word}
use Rattle.yspec.specs.linking.Source.{stated_by, all_with}
use Rattle.ylink_grammar.specs.SourceView.{stated_view}
use Rattle.yschema_plan.specs.OwnView.{left}
use Rattle.yschema_plan.specs.PlannedView.{part_at}
use Rattle.yschema_plan.proofs.facts.own_defaults.Given as goal

abbrev pub invariant-loop-statement : goal.invariant-loop-statement
invariant-loop-statement l = record {
  more : (goal.iterator-loop-statement).can_next l.statement-iterator;
  ends : (goal.iterator-loop-statement).is_finite l.statement-iterator;
  so_far : map stated_view l.defaults.items ++ map stated_by (left l.statement-iterator)
      ≡ map stated_by (all_with default_word (part_at l.planned).own);
}
