use Rattle.std.proofs.Common.{cond, map, sym, ap, ◌∙◌}
use Rattle.std.specs.List.{flat_map}
use Rattle.std.proofs.lemmas.Result.{IfOk-weaker}
use Rattle.yspec.specs.types.Restriction.{union_type}
use Rattle.yspec.specs.linking.Planned as spec
use Rattle.ylink.specs.TypeView.{member_view}
use Rattle.yschema_plan.specs.PlanView.{view}
use Rattle.yschema_types.specs.MadeTypes.{too_wide, typed_in, types_held}
use Rattle.yschema_types.specs.MadeView.{rows_view}
use Rattle.yschema_types.specs.TypesView.{homes_in}
use Rattle.yschema_types.proofs.making.made_of_types.Goals as goal

pub returns-then-are_too_many : goal.returns-then-are_too_many
returns-then-are_too_many c = λ p owner.
    let home = homes_in c.args.modules.now c.args.owner in
    let targets = flat_map (spec.targets_in (view c.args.plan.now) (types_held (rows_view c.args.made.now)) p) (map member_view c.args.members.now) in
    sym (ap (λ b. cond b too_wide (typed_in home targets (union_type c.args.types.now))) (sym c.are_too_many.ensures ∙ c.if-are_too_many.true))

pub returns : goal.returns
returns c = λ p owner.
    let home = homes_in c.args.modules.now c.args.owner in
    let targets = flat_map (spec.targets_in (view c.args.plan.now) (types_held (rows_view c.args.made.now)) p) (map member_view c.args.members.now) in
    IfOk-weaker c.made_joined.result _ _ (λ one e. e
    ∙ (ap (λ l. typed_in home l (union_type c.args.types.now)) (c.in_ok-targets.ensures p owner)
    ∙ sym (ap (λ b. cond b too_wide (typed_in home targets (union_type c.args.types.now))) (sym c.are_too_many.ensures ∙ c.if-are_too_many.false))))
    c.made_joined.ensures
