use Rattle.std.proofs.Common.{◌++◌, [], map, sym, ap, ◌∙◌}
use Rattle.std.specs.List.{range_with_len}
use Rattle.std.specs.Option.{option_map_or}
use Rattle.yspec.specs.types.Restriction.{members_of}
use Rattle.yspec.specs.linking.Planned as spec
use Rattle.ylink_arguments.specs.NameView.{names_view}
use Rattle.ylink.specs.TypeView.{member_view}
use Rattle.yschema_model.specs.Layout.{targets_view}
use Rattle.yschema_plan.specs.PlanView.{view}
use Rattle.yschema_types.specs.MadeTypes.{no_target, targets_to, types_held}
use Rattle.yschema_types.specs.MadeView.{rows_view}
use Rattle.yschema_types.proofs.MakingLemmas.{none_each}
use Rattle.yschema_types.proofs.making.add_member.Goals as goal

pub returns-in_ok-add_own-in-Own : goal.returns-in_ok-add_own-in-Own
returns-in_ok-add_own-in-Own c = λ p owner.
    let old = targets_view c.args.targets.now.items in
    c.in_ok-add_own-in-Own.ensures
    ∙ ap (λ l. old ++ l) (ap (λ n. map (λ i. no_target) (range_with_len 0 n)) c.member_count.ensures
    ∙ (none_each 0 (members_of c.in-Own.value_type.shape)
    ∙ ap (spec.targets_in (view c.args.plan.now) (types_held (rows_view c.args.made.now)) p) (ap member_view (sym c.in-Own.is))))

pub returns-in_ok-add_leafref-in-Leafref : goal.returns-in_ok-add_leafref-in-Leafref
returns-in_ok-add_leafref-in-Leafref c = λ p owner.
    let plan = view c.args.plan.now in
    let types = types_held (rows_view c.args.made.now) in
    let old = targets_view c.args.targets.now.items in
    c.in_ok-add_leafref-in-Leafref.ensures
    ∙ ap (λ l. old ++ l) (ap (λ o. option_map_or (targets_to types c.in-Leafref.required) o []) (c.path_target-target.ensures p owner
    ∙ ap (λ steps. spec.path_target plan p c.in-Leafref.home (names_view steps)) c.as_slice.ensures.value)
    ∙ ap (spec.targets_in plan types p) (ap member_view (sym c.in-Leafref.is)))
