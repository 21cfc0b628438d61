use Rattle.std.proofs.Common.{sym, ap, ◌∙◌}
use Rattle.yschema_plan.specs.Finding.{is_before}
use Rattle.yschema_plan.specs.PlannedView.{planned_view}
use Rattle.yschema_plan.proofs.PlanLemmas.{first_alike}
use Rattle.yschema_plan.proofs.plan.Plan.is_repeated.Goals as goal

pub returns-in-Some : goal.returns-in-Some
returns-in-Some c =
    let n = c.args.number in
    ap (λ o. is_before o n) (sym c.in-Some.is ∙ (c.first_like.ensures
    ∙ first_alike c.args.self.now n c.owner-module.result (planned_view n c.args.planned.now) c.requires c.owner-module.ensures))

pub returns-in-None : goal.returns-in-None
returns-in-None c =
    let n = c.args.number in
    ap (λ o. is_before o n) (sym c.in-None.is ∙ (c.first_like.ensures
    ∙ first_alike c.args.self.now n c.owner-module.result (planned_view n c.args.planned.now) c.requires c.owner-module.ensures))
