use Rattle.std.proofs.lemmas.Result.{IfOk-weaker}
use Rattle.ybase_preorder.specs.View.{slots_in}
use Rattle.yschema_plan.specs.PlannedView.{planned_view}
use Rattle.yschema_plan.specs.PlanView.{view}
use Rattle.yschema_plan.proofs.NeedLemmas.{shows_itself}
use Rattle.yschema_plan.proofs.plan.Plan.needs_standing.Goals as goal

pub returns : goal.returns
returns c =
    let plan = c.args.self.now in
    IfOk-weaker c.needs_below.result _ _ (λ told is. is (view plan).nodes (shows_itself planned_view (slots_in plan.table) plan.laid_out)) c.needs_below.ensures
