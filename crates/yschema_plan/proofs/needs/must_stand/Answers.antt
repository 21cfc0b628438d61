use Rattle.std.proofs.Common.{◌&&◌, sym, ap, ◌∙◌}
use Rattle.yspec.specs.linking.NodeBreaks.{must_be}
use Rattle.yschema_plan.specs.Needs.{is_told}
use Rattle.yschema_plan.specs.PlannedView.{planned_view}
use Rattle.yschema_plan.proofs.needs.must_stand.Goals as goal

pub returns-then-stands : goal.returns-then-stands
returns-then-stands c =
    let p = planned_view c.args.number c.args.planned.now in
    c.must_be.ensures c.args.number ∙ (ap (must_be p) c.is_told.ensures
    ∙ ap (λ b. b && must_be p (is_told c.args.told.now c.args.number)) (sym c.if-stands.true ∙ c.stands.ensures))
