use Rattle.std.proofs.Common.{◌++◌, map, sym, ◌∙◌, arith}
use Rattle.std.specs.List.{flat_map}
use Rattle.std.proofs.lemmas.List.{append-nil, at_drop_all}
use Rattle.yspec.specs.linking.Planned as spec
use Rattle.ylink.specs.TypeView.{member_view}
use Rattle.yschema_model.specs.Layout.{targets_view}
use Rattle.yschema_plan.specs.PlanView.{view}
use Rattle.yschema_types.specs.MadeTypes.{types_held}
use Rattle.yschema_types.specs.MadeView.{rows_view}
use Rattle.yschema_types.proofs.MakingLemmas.{one_made_more}
use Rattle.yschema_types.proofs.making.member_targets.Goals as goal

pub loop-member-preserved : goal.loop-member-preserved
loop-member-preserved c = λ p owner.
    one_made_more member_view (spec.targets_in (view c.args.plan.now) (types_held (rows_view c.args.made.now)) p) c.args.members.now c.loop-member.member-index
    c.member-item.result (targets_view c.loop-member.targets.items) (targets_view c.add_member.new.targets.items) _ (omega arith) c.member-item.is
    (c.in_ok-add_member.ensures p owner) (c.loop-member.invariant p owner)

pub returns : goal.returns
returns c = λ p owner.
    let found = targets_view c.loop-member.targets.items in
    sym (append-nil found)
    ∙ (sym (at_drop_all (λ l. found ++ flat_map (spec.targets_in (view c.args.plan.now) (types_held (rows_view c.args.made.now)) p) (map member_view l))
    c.args.members.now c.loop-member.member-index (omega (arith, c.loop-member-test.false))) ∙ c.loop-member.invariant p owner)
