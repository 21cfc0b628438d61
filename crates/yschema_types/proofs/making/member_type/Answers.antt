use Rattle.std.proofs.Common.{sym, ap, ◌∙◌}
use Rattle.std.specs.Prelude.{option_and_then}
use Rattle.std.proofs.lemmas.Result.{IfOk-weaker}
use Rattle.yspec.specs.linking.Planned as spec
use Rattle.ylink_arguments.specs.NameView.{names_view}
use Rattle.ylink.specs.TypeView.{member_view}
use Rattle.yschema_plan.specs.PlanView.{view}
use Rattle.yschema_types.specs.MadeTypes.{types_held}
use Rattle.yschema_types.specs.MadeView.{rows_view}
use Rattle.yschema_types.proofs.making.member_type.Goals as goal

pub returns-in-Own : goal.returns-in-Own
returns-in-Own c = λ p owner.
    IfOk-weaker c.copied.result _ _
    (λ t e. e ∙ ap (spec.member_type (view c.args.plan.now) (types_held (rows_view c.args.made.now)) p) (ap member_view (sym c.in-Own.is)))
    c.copied.ensures

pub returns-in-Leafref : goal.returns-in-Leafref
returns-in-Leafref c = λ p owner.
    let plan = view c.args.plan.now in
    let types = types_held (rows_view c.args.made.now) in
    IfOk-weaker c.copied-in-Leafref.result _ _
    (λ t e. e ∙ (c.target_type.ensures p owner
    ∙ (ap (λ steps. option_and_then types (spec.path_target plan p c.in-Leafref.home (names_view steps))) c.as_slice.ensures.value
    ∙ ap (spec.member_type plan types p) (ap member_view (sym c.in-Leafref.is)))))
    c.copied-in-Leafref.ensures
