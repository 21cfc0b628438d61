use Rattle.std.proofs.Common.{Some, map, sym, ap, ◌∙◌, arith}
use Rattle.std.proofs.lemmas.List.{append-nil, at_drop_all}
use Rattle.yspec.specs.linking.Planned as spec
use Rattle.ylink.specs.TypeView.{member_view}
use Rattle.ylink_arguments.proofs.ListLemmas.{with_more, none_yet}
use Rattle.yschema_plan.specs.PlanView.{view}
use Rattle.yschema_types.specs.MadeTypes.{types_held}
use Rattle.yschema_types.specs.MadeView.{rows_view}
use Rattle.yschema_types.proofs.MakingLemmas.{one_type_more, no_type_more}
use Rattle.yschema_types.proofs.making.member_types.Goals as goal

pub loop-member-init : goal.loop-member-init
loop-member-init c = λ p owner.
    let all = spec.member_types (view c.args.plan.now) (types_held (rows_view c.args.made.now)) p (map member_view c.args.members.now) in
    ap (λ xs. with_more xs all) c.in_ok-types.ensures.items ∙ none_yet all

pub loop-member-preserved : goal.loop-member-preserved
loop-member-preserved c = λ p owner.
    one_type_more (view c.args.plan.now) (types_held (rows_view c.args.made.now)) p c.args.members.now c.loop-member.member-index c.member-item.result
    (omega arith) c.member-item.is c.loop-member.types.items c.push.new.self.items c.in-Some.value_type _ c.in_ok-push-in-Some.ensures.items
    (sym c.in-Some.is ∙ c.in_ok-value_type.ensures p owner) (c.loop-member.invariant p owner)

pub returns-in-None : goal.returns-in-None
returns-in-None c = λ p owner.
    no_type_more (view c.args.plan.now) (types_held (rows_view c.args.made.now)) p c.args.members.now c.loop-member.member-index c.member-item.result
    (omega arith) c.member-item.is c.loop-member.types.items _ (sym c.in-None.is ∙ c.in_ok-value_type.ensures p owner) (c.loop-member.invariant p owner)

pub returns : goal.returns
returns c = λ p owner.
    let found = c.loop-member.types.items in
    ap Some (sym (append-nil found))
    ∙ (sym (at_drop_all (λ l. with_more found (spec.member_types (view c.args.plan.now) (types_held (rows_view c.args.made.now)) p (map member_view l)))
    c.args.members.now c.loop-member.member-index (omega (arith, c.loop-member-test.false))) ∙ c.loop-member.invariant p owner)
