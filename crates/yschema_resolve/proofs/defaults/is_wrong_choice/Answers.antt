use Rattle.std.proofs.Common.{◌≡◌, ◌&&◌, is_some, sym, ap, ◌∙◌}
use Rattle.yspec.specs.linking.Keyword.{default_word}
use Rattle.yspec.specs.linking.Planned.{stated_in}
use Rattle.yspec.specs.linking.SchemaNodes.{default_case}
use Rattle.yspec.specs.linking.NodeBreaks.{is_wrong_case}
use Rattle.yspec.proofs.BasicLemmas.{is_some_map}
use Rattle.yschema_plan.specs.PlannedView.{planned_view}
use Rattle.yschema_plan.specs.PlanView.{view}
use Rattle.yschema_resolve.proofs.defaults.is_wrong_choice.Goals as goal

pub returns-then-is_some : goal.returns-then-is_some
returns-then-is_some c =
    let plan = view c.args.plan.now in
    let p = planned_view c.args.number c.args.planned.now in
    let stated : c.is_some.result ≡ is_some (stated_in default_word p) =
    c.is_some.ensures ∙ (is_some_map (λ t. t.now) c.own_argument.result ∙ ap is_some (c.own_argument.ensures c.args.number)) in
    c.is_wrong_case.ensures ∙ ap (λ b. b && is_wrong_case plan p (default_case plan p)) (sym c.if-is_some.true ∙ stated)

pub returns-else-is_some : goal.returns-else-is_some
returns-else-is_some c =
    let plan = view c.args.plan.now in
    let p = planned_view c.args.number c.args.planned.now in
    let stated : c.is_some.result ≡ is_some (stated_in default_word p) =
    c.is_some.ensures ∙ (is_some_map (λ t. t.now) c.own_argument.result ∙ ap is_some (c.own_argument.ensures c.args.number)) in
    c.if-is_some.false ∙ ap (λ b. b && is_wrong_case plan p (default_case plan p)) (sym c.if-is_some.false ∙ stated)
