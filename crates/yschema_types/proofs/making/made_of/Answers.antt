use Rattle.std.proofs.Common.{option_map, sym, ap, ◌∙◌}
use Rattle.std.proofs.lemmas.Result.{IfOk-weaker}
use Rattle.ylink.specs.TypeView.{meant_view}
use Rattle.yschema_plan.specs.PlanView.{view}
use Rattle.yschema_plan.specs.PlannedView.{planned_view}
use Rattle.yschema_types.specs.MadeTypes.{made_as, made_by, types_held}
use Rattle.yschema_types.specs.MadeView.{rows_view}
use Rattle.yschema_types.specs.TypesView.{homes_in}
use Rattle.yschema_types.proofs.making.made_of.Goals as goal

pub returns-in-Some : goal.returns-in-Some
returns-in-Some c = λ number.
    let plan = view c.args.plan.now in
    let homes = homes_in c.args.modules.now in
    let types = types_held (rows_view c.args.made.now) in
    let p = planned_view number c.args.planned.now in
    IfOk-weaker c.made_meant.result _ _ (λ one e. e
    ∙ (ap (λ n. made_by (homes n) plan types p (meant_view c.in-Some.meant.now)) c.owner.ensures
    ∙ ap (made_as homes plan types p) (ap (option_map (λ m. meant_view m.now)) (sym c.in-Some.is))))
    (c.made_meant.ensures p c.owner.ensures)

pub returns-in-None : goal.returns-in-None
returns-in-None c = λ number.
    let p = planned_view number c.args.planned.now in
    ap (made_as (homes_in c.args.modules.now) (view c.args.plan.now) (types_held (rows_view c.args.made.now)) p) (ap (option_map (λ m. meant_view m.now)) (sym c.in-None.is))
