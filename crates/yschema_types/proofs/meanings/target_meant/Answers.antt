use Rattle.std.proofs.Common.{sym, ap, ◌∙◌}
use Rattle.yspec.specs.linking.Planned as spec
use Rattle.ylink_arguments.specs.NameView.{names_view}
use Rattle.ylink.specs.TypeView.{meant_view}
use Rattle.yschema_plan.specs.PlanView.{view}
use Rattle.yschema_types.proofs.meanings.target_meant.Goals as goal

pub returns-in-OfTarget : goal.returns-in-OfTarget
returns-in-OfTarget c = λ p owner.
    let plan = view c.args.plan.now in
    c.path_target.ensures p owner
    ∙ (ap (λ steps. spec.path_target plan p c.in-OfTarget.home (names_view steps)) c.as_slice.ensures.value
    ∙ ap (spec.target_meant plan p) (ap meant_view (sym c.in-OfTarget.is)))
