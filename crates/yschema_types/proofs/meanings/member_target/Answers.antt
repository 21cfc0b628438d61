use Rattle.std.proofs.Common.{sym, ap, ◌∙◌}
use Rattle.yspec.specs.linking.Planned as spec
use Rattle.ylink_arguments.specs.NameView.{names_view}
use Rattle.ylink.specs.TypeView.{member_view}
use Rattle.yschema_plan.specs.PlanView.{view}
use Rattle.yschema_types.proofs.meanings.member_target.Goals as goal

pub returns-in-Leafref : goal.returns-in-Leafref
returns-in-Leafref c = λ p owner.
    let plan = view c.args.plan.now in
    c.path_target.ensures p owner
    ∙ (ap (λ steps. spec.path_target plan p c.in-Leafref.home (names_view steps)) c.as_slice.ensures.value
    ∙ ap (spec.member_target plan p) (ap member_view (sym c.in-Leafref.is)))
