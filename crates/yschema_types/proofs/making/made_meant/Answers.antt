use Rattle.std.proofs.Common.{[], sym, ap, ◌∙◌}
use Rattle.std.specs.Prelude.{option_and_then}
use Rattle.std.specs.Option.{option_map_or}
use Rattle.std.proofs.lemmas.Result.{IfOk-weaker}
use Rattle.yspec.specs.linking.TypeStatements.{of_union}
use Rattle.yspec.specs.linking.Planned as spec
use Rattle.ylink_arguments.specs.NameView.{names_view}
use Rattle.ylink.specs.TypeView.{meant_view, member_view}
use Rattle.yschema_model.specs.Layout.{targets_view}
use Rattle.yschema_plan.specs.PlanView.{view}
use Rattle.yschema_types.specs.MadeTypes.{made_by, nothing, typed_in, types_held}
use Rattle.yschema_types.specs.MadeView.{rows_view}
use Rattle.yschema_types.specs.TypesView.{homes_in}
use Rattle.std.specs.Prelude.{map}
use Rattle.yschema_types.proofs.making.made_meant.Goals as goal

pub returns-in-Own : goal.returns-in-Own
returns-in-Own c = λ p owner.
    let home = homes_in c.args.modules.now c.args.owner in
    let made = made_by home (view c.args.plan.now) (types_held (rows_view c.args.made.now)) p in
    IfOk-weaker c.made_in_module.result _ _ (λ one e. e
    ∙ (ap (λ l. typed_in home (targets_view l) c.in-Own.value_type) c.new.ensures.items ∙ ap made (ap meant_view (sym c.in-Own.is))))
    c.made_in_module.ensures

pub returns-in-OfTarget : goal.returns-in-OfTarget
returns-in-OfTarget c = λ p owner.
    let plan = view c.args.plan.now in
    let home = homes_in c.args.modules.now c.args.owner in
    let types = types_held (rows_view c.args.made.now) in
    let required = c.in-OfTarget.required in
    IfOk-weaker c.made_referring.result _ _ (λ one e. e
    ∙ (ap (λ o. option_map_or (λ type. typed_in home [] (spec.referring required type)) o nothing) (c.target_type-target.ensures p owner
    ∙ ap (λ steps. option_and_then types (spec.path_target plan p c.in-OfTarget.home (names_view steps))) c.as_slice.ensures.value)
    ∙ ap (made_by home plan types p) (ap meant_view (sym c.in-OfTarget.is))))
    c.made_referring.ensures

pub returns-in-OfUnion : goal.returns-in-OfUnion
returns-in-OfUnion c = λ p owner.
    let plan = view c.args.plan.now in
    let home = homes_in c.args.modules.now c.args.owner in
    let types = types_held (rows_view c.args.made.now) in
    IfOk-weaker c.made_union.result _ _ (λ one e. e
    ∙ (ap (λ members. made_by home plan types p (of_union (map member_view members))) c.as_slice-in-OfUnion.ensures.value
    ∙ ap (made_by home plan types p) (ap meant_view (sym c.in-OfUnion.is))))
    (c.made_union.ensures p owner)
