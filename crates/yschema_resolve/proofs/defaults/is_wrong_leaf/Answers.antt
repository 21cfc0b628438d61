use Rattle.std.proofs.Common.{sym, ap, ap₂, ◌∙◌}
use Rattle.std.specs.Prelude.{option_map}
use Rattle.std.proofs.lemmas.Result.{IfOk-weaker}
use Rattle.yschema_plan.specs.PlannedView.{planned_view}
use Rattle.yschema_resolve.specs.Values.{wrong_leaf}
use Rattle.yschema_resolve.proofs.defaults.is_wrong_leaf.Goals as goal

pub returns-else-is_key : goal.returns-else-is_key
returns-else-is_key c = λ language plan number of_plan unmarked.
    let type = ap (option_map (λ t. t.now)) (sym c.in-Some.is) in
    IfOk-weaker c.is_wrong_default.result _ _ (λ wrong so. so ∙ ap₂ (wrong_leaf language plan (planned_view number c.args.planned.now)) (sym c.if-is_key.false) type)
    (c.is_wrong_default.ensures language plan number of_plan (unmarked c.in-Some.value_type.now (sym type)))
