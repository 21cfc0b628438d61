use Rattle.std.proofs.Common.{◌≡◌, ◌++◌, map}
use Rattle.yspec.specs.linking.Compiling.{schema_modules}
use Rattle.ybase_preorder.specs.View.{row_by}
use Rattle.yschema_plan.specs.PlanView as plans
use Rattle.ylink_grammar.specs.SourceView.{source_view}
use Rattle.yschema_model.specs.View.{module_view}
use Rattle.yschema.proofs.building.modules_of.Given as goal

abbrev pub invariant-loop-module : goal.invariant-loop-module
invariant-loop-module l = record {
  more : (goal.iterator-loop-module).can_next l.module-iterator;
  ends : (goal.iterator-loop-module).is_finite l.module-iterator;
  so_far : map module_view l.modules.items ++ schema_modules (plans.view l.plan) (row_by source_view l.module-iterator)
      ≡ schema_modules (plans.view l.plan) (plans.view l.plan).modules;
}
