use Rattle.std.proofs.Common.{◌≡◌, true, ◌||◌, ap, sym, ◌∙◌}
use Rattle.yspec.specs.linking.SchemaNodes.{default_case}
use Rattle.yspec.specs.linking.SchemaNodes as nodes
use Rattle.yspec.specs.linking.NodeBreaks.{has_mandatory, row_below}
use Rattle.yschema_plan.specs.PlannedView.{planned_view}
use Rattle.yschema_plan.specs.PlanView.{view}
use Rattle.yschema_plan.proofs.FactLemmas.{wrong_by, wrong_case}
use Rattle.yschema_plan.proofs.facts.is_wrong_case.Goals as goal

pub returns-then-is_mandatory : goal.returns-then-is_mandatory
returns-then-is_mandatory c =
    let plan = view c.args.plan.now in
    let p = planned_view c.args.number c.args.planned.now in
    let inside = has_mandatory (row_below plan c.in-Some.case) in
    let stands : true ≡ nodes.is_mandatory p = sym c.if-is_mandatory.true ∙ c.is_mandatory.ensures c.args.number in
    c.if-is_mandatory.true ∙ (ap (λ b. b || inside) stands ∙ (ap (wrong_by plan p) (sym c.in-Some.is ∙ c.default_case.ensures) ∙ wrong_case plan p (default_case plan p)))

pub returns-else-is_mandatory : goal.returns-else-is_mandatory
returns-else-is_mandatory c =
    let plan = view c.args.plan.now in
    let p = planned_view c.args.number c.args.planned.now in
    let other = sym c.if-is_mandatory.false ∙ c.is_mandatory.ensures c.args.number in
    c.has_mandatory_below.ensures ∙ (ap (λ b. b || has_mandatory (row_below plan c.in-Some.case)) other ∙ (ap (wrong_by plan p) (sym c.in-Some.is ∙ c.default_case.ensures) ∙ wrong_case plan p (default_case plan p)))

pub returns-in-None : goal.returns-in-None
returns-in-None c =
    let plan = view c.args.plan.now in
    let p = planned_view c.args.number c.args.planned.now in
    ap (wrong_by plan p) (sym c.in-None.is ∙ c.default_case.ensures) ∙ wrong_case plan p (default_case plan p)
