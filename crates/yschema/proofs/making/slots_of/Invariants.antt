use Rattle.std.proofs.Common.{◌≡◌, ◌++◌, drop, length}
use Rattle.yspec_wide.specs.Types.{schema_node_in}
use Rattle.ylink_grammar.specs.LanguageView.{language_view}
use Rattle.ybase_preorder.specs.View.{slots_in}
use Rattle.yschema_plan.specs.PlanView.{view}
use Rattle.yschema_model.specs.Layout.{laid}
use Rattle.yschema.proofs.MakingLemmas.{ahead}
use Rattle.yschema.proofs.making.slots_of.Given as goal

abbrev pub invariant-loop-number : goal.invariant-loop-number
invariant-loop-number l = record {
  counted : length l.rows.items ≡ l.number;
  laid : laid 0 l.rows.items ++ ahead (schema_node_in (language_view l.language) (view l.plan)) l.number (drop l.number (slots_in l.plan.table))
      ≡ ahead (schema_node_in (language_view l.language) (view l.plan)) 0 (slots_in l.plan.table);
}
