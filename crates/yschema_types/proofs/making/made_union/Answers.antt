use Rattle.std.proofs.Common.{map, option_map, sym, ap, ◌∙◌}
use Rattle.std.specs.List.{flat_map}
use Rattle.std.specs.Option.{option_map_or}
use Rattle.std.proofs.lemmas.Result.{IfOk-weaker}
use Rattle.yspec.specs.linking.Planned as spec
use Rattle.ylink.specs.TypeView.{member_view}
use Rattle.yschema_plan.specs.PlanView.{view}
use Rattle.yschema_types.specs.MadeTypes.{joined, nothing, types_held}
use Rattle.yschema_types.specs.MadeView.{rows_view}
use Rattle.yschema_types.specs.TypesView.{homes_in}
use Rattle.yschema_types.proofs.making.made_union.Goals as goal

pub returns-in-Some : goal.returns-in-Some
returns-in-Some c = λ p owner.
    let home = homes_in c.args.modules.now c.args.owner in
    let targets = flat_map (spec.targets_in (view c.args.plan.now) (types_held (rows_view c.args.made.now)) p) (map member_view c.args.members.now) in
    IfOk-weaker c.made_of_types.result _ _ (λ one e. e
    ∙ (ap (joined home targets) c.as_slice.ensures.value
    ∙ ap (λ o. option_map_or (joined home targets) o nothing) (ap (option_map (λ t. t.items)) (sym c.in-Some.is) ∙ c.in_ok-types.ensures p owner)))
    (c.made_of_types.ensures p owner)

pub returns-in-None : goal.returns-in-None
returns-in-None c = λ p owner.
    let home = homes_in c.args.modules.now c.args.owner in
    let targets = flat_map (spec.targets_in (view c.args.plan.now) (types_held (rows_view c.args.made.now)) p) (map member_view c.args.members.now) in
    ap (λ o. option_map_or (joined home targets) o nothing) (ap (option_map (λ t. t.items)) (sym c.in-None.is) ∙ c.in_ok-types.ensures p owner)
