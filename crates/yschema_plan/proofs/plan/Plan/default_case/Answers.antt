use Rattle.std.proofs.Common.{ap, sym, ◌∙◌, Some}
use Rattle.std.specs.Prelude.{option_map, option_and_then}
use Rattle.yspec.specs.linking.Planned.{child_called}
use Rattle.yspec.specs.linking.SchemaNodes.{number_in}
use Rattle.yschema_plan.specs.PlannedView.{part_at}
use Rattle.yschema_plan.specs.PlanView.{view}
use Rattle.yschema_plan.proofs.plan.Plan.default_case.Goals as goal

pub returns-in-Some : goal.returns-in-Some
returns-in-Some c =
    let plan = view c.args.self.now in
    let n = c.args.number in
    let owner = (part_at c.args.planned.now).owner in
    c.child.ensures
    ∙ (ap (λ m. option_map number_in (child_called plan (Some n) (record { module_number = Some m; name = c.in-Some.name.now }))) c.owner.ensures
    ∙ ap (λ o. option_map number_in (option_and_then (λ t. child_called plan (Some n) (record { module_number = Some owner; name = t })) o))
    (ap (option_map (λ t. t.now)) (sym c.in-Some.is) ∙ c.own_argument.ensures n))

pub returns-in-None : goal.returns-in-None
returns-in-None c =
    let plan = view c.args.self.now in
    let n = c.args.number in
    let owner = (part_at c.args.planned.now).owner in
    ap (λ o. option_map number_in (option_and_then (λ t. child_called plan (Some n) (record { module_number = Some owner; name = t })) o))
    (ap (option_map (λ t. t.now)) (sym c.in-None.is) ∙ c.own_argument.ensures n)
