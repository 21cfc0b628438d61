use Rattle.std.proofs.Common.{◌≡◌, ◌++◌, map}
use Rattle.std.specs.List.{filter_map}
use Rattle.yspec.specs.linking.Augments as augments
use Rattle.yspec.specs.linking.Compiling.{schema_augment}
use Rattle.ybase_preorder.specs.View.{row_by}
use Rattle.ylink_grammar.specs.SourceView.{source_view}
use Rattle.yschema_plan.specs.PlanView.{view}
use Rattle.yschema_model.specs.View.{augment_view}
use Rattle.yschema.proofs.augmenting.augments_in.Given as goal

abbrev pub invariant-loop-statement : goal.invariant-loop-statement
invariant-loop-statement l = record {
  more : (goal.iterator-loop-statement).can_next l.statement-iterator;
  ends : (goal.iterator-loop-statement).is_finite l.statement-iterator;
  so_far : map augment_view l.augments.items
      ++ filter_map (schema_augment (view l.plan)) (augments.augments_in (row_by source_view l.statement-iterator))
      ≡ filter_map (schema_augment (view l.plan)) (augments.augments_in (row_by source_view l.statements));
}
