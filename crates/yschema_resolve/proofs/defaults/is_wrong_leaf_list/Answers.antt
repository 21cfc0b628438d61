use Rattle.std.proofs.Common.{sym, ap, ◌∙◌}
use Rattle.std.specs.Prelude.{option_map}
use Rattle.std.proofs.lemmas.Result.{IfOk-weaker}
use Rattle.yschema_plan.specs.PlannedView.{planned_view}
use Rattle.yschema_resolve.specs.Values.{wrong_leaf_list}
use Rattle.yschema_resolve.proofs.defaults.is_wrong_leaf_list.Goals as goal

pub returns-in-Some : goal.returns-in-Some
returns-in-Some c = λ language plan number of_plan unmarked.
    let type = ap (option_map (λ t. t.now)) (sym c.in-Some.is) in
    IfOk-weaker c.are_wrong_defaults.result _ _ (λ wrong so. so ∙ ap (wrong_leaf_list language plan (planned_view number c.args.planned.now)) type)
    (c.are_wrong_defaults.ensures language plan number of_plan (unmarked c.in-Some.value_type.now (sym type)))
