use Rattle.std.proofs.Common.{ap, ◌∙◌, map, option_map}
use Rattle.std.specs.List.{list_any}
use Rattle.yspec.specs.linking.NodeBreaks.{is_wrong_member}
use Rattle.ylink.specs.TypeView.{meant_view, member_view}
use Rattle.ylink_arguments.specs.NameView.{names_view}
use Rattle.yschema_plan.specs.NodesView.{node_view}
use Rattle.yschema_plan.specs.PlanView.{view}
use Rattle.yschema_resolve.proofs.ReferenceLemmas.{either_way, either_member, first_holds, second_tells}
use Rattle.yschema_resolve.proofs.references.is_wrong_meant.Goals as goal

pub returns-then-is_wrong_target : goal.returns-then-is_wrong_target
returns-then-is_wrong_target c = λ on.
    let node = node_view c.args.node in
    let wrong = c.is_wrong_target.result in
    first_holds wrong c.args.on_circle c.if-is_wrong_target.true
    ∙ either_way (view c.args.plan.now) node (meant_view c.args.meant.now) c.in-OfTarget.home (names_view c.in-OfTarget.steps.items) c.in-OfTarget.required
    (ap meant_view c.in-OfTarget.is) (option_map node_view c.target_meant-target.result) (c.target_meant-target.ensures node c.owner.ensures)
    c.args.on_circle wrong on (c.is_wrong_target.ensures c.args.node.number)

pub returns-else-is_wrong_target : goal.returns-else-is_wrong_target
returns-else-is_wrong_target c = λ on.
    let node = node_view c.args.node in
    let wrong = c.is_wrong_target.result in
    second_tells wrong c.args.on_circle c.if-is_wrong_target.false
    ∙ either_way (view c.args.plan.now) node (meant_view c.args.meant.now) c.in-OfTarget.home (names_view c.in-OfTarget.steps.items) c.in-OfTarget.required
    (ap meant_view c.in-OfTarget.is) (option_map node_view c.target_meant-target.result) (c.target_meant-target.ensures node c.owner.ensures)
    c.args.on_circle wrong on (c.is_wrong_target.ensures c.args.node.number)

pub returns-then-has_wrong_member : goal.returns-then-has_wrong_member
returns-then-has_wrong_member c = λ on.
    let plan = view c.args.plan.now in
    let node = node_view c.args.node in
    let wrong = c.has_wrong_member.result in
    first_holds wrong c.args.on_circle c.if-has_wrong_member.true
    ∙ either_member plan node (meant_view c.args.meant.now) _ (ap meant_view c.in-OfUnion.is) c.args.on_circle wrong on
    (c.has_wrong_member.ensures ∙ ap (λ members. list_any (is_wrong_member plan node) (map member_view members)) c.as_slice.ensures.value)

pub returns-else-has_wrong_member : goal.returns-else-has_wrong_member
returns-else-has_wrong_member c = λ on.
    let plan = view c.args.plan.now in
    let node = node_view c.args.node in
    let wrong = c.has_wrong_member.result in
    second_tells wrong c.args.on_circle c.if-has_wrong_member.false
    ∙ either_member plan node (meant_view c.args.meant.now) _ (ap meant_view c.in-OfUnion.is) c.args.on_circle wrong on
    (c.has_wrong_member.ensures ∙ ap (λ members. list_any (is_wrong_member plan node) (map member_view members)) c.as_slice.ensures.value)
