use Rattle.std.proofs.Common.{◌+◌, ◌*◌, ◌<◌, length, ap, sym, ◌∙◌, subst, arith, rules}
use Rattle.json.specs.Tree.{json_tokens, items_tokens, members_tokens}
use Rattle.json.specs.Value.{items_view, members_view, value_view}
use Rattle.json.proofs.Trees.{item_smaller, member_smaller}
use Rattle.ysay_lines.proofs.PassingLemmas.{array_passed, item_passed, items_passed, member_passed, members_passed, object_passed, single, single_passed}
use Rattle.ysay_lines.proofs.passing.+passing.Goals as goal

pub pass_value-returns-in-Array : goal.pass_value-returns-in-Array
pass_value-returns-in-Array t c =
    array_passed (value_view c.args.value.now) c.in-Array.items c.deref.result.now c.args.places.now c.behind_first-inside.result.now c.pass_items.result.now (ap value_view c.in-Array.is)
    c.deref.ensures.value c.behind_first-inside.ensures c.pass_items.ensures

pub pass_value-returns-in-Object : goal.pass_value-returns-in-Object
pass_value-returns-in-Object t c =
    object_passed (value_view c.args.value.now) c.in-Object.members c.deref-in-Object.result.now c.args.places.now c.behind_first-inside.result.now c.pass_members.result.now (ap value_view c.in-Object.is)
    c.deref-in-Object.ensures.value c.behind_first-inside.ensures c.pass_members.ensures

pub pass_value-returns-in_default : goal.pass_value-returns-in_default
pass_value-returns-in_default t c =
    c.behind_first-inside.ensures ∙ single_passed (value_view c.args.value.now) c.args.places.now (single c.args.value.now c.in_default.not-Array c.in_default.not-Object)

pub pass_items-pass_value-left-requires : goal.pass_items-pass_value-left-requires
pass_items-pass_value-left-requires t c =
    let items = c.args.items.now in
    let v = c.item-item.result in
    let smaller : length (json_tokens (value_view v)) < length (items_tokens (items_view items)) =
    subst (λ y. length (json_tokens (value_view y)) < length (items_tokens (items_view items))) (sym c.item-item.is) (item_smaller items c.loop-item.item-index v (omega arith)) in
    let less : 2 * length (json_tokens (value_view v)) < 2 * length (items_tokens (items_view items)) + 1 = omega (arith, smaller) in
    search rules

pub pass_items-loop-item-preserved : goal.pass_items-loop-item-preserved
pass_items-loop-item-preserved t c =
    item_passed c.args.items.now c.loop-item.item-index c.item-item.result c.loop-item.left.now c.pass_value-left.result.now _ (omega arith) c.item-item.is c.pass_value-left.ensures c.loop-item.invariant

pub pass_items-returns : goal.pass_items-returns
pass_items-returns t c =
    items_passed c.args.items.now c.loop-item.item-index c.loop-item.left.now c.behind_first.result.now _ (omega arith) c.behind_first.ensures c.loop-item.invariant

pub pass_members-pass_value-left-requires : goal.pass_members-pass_value-left-requires
pass_members-pass_value-left-requires t c =
    let ms = c.args.members.now in
    let m = c.member-item.result in
    let smaller : length (json_tokens (value_view m.1)) < length (members_tokens (members_view ms)) =
    subst (λ y. length (json_tokens (value_view y.1)) < length (members_tokens (members_view ms))) (sym c.member-item.is) (member_smaller ms c.loop-member.member-index m (omega arith)) in
    let less : 2 * length (json_tokens (value_view m.1)) < 2 * length (members_tokens (members_view ms)) + 1 = omega (arith, smaller) in
    search rules

pub pass_members-loop-member-preserved : goal.pass_members-loop-member-preserved
pass_members-loop-member-preserved t c =
    member_passed c.args.members.now c.loop-member.member-index c.member-item.result c.loop-member.left.now c.behind_first-inside.result.now c.pass_value-left.result.now _ (omega arith) c.member-item.is
    c.behind_first-inside.ensures c.pass_value-left.ensures c.loop-member.invariant

pub pass_members-returns : goal.pass_members-returns
pass_members-returns t c =
    members_passed c.args.members.now c.loop-member.member-index c.loop-member.left.now c.behind_first.result.now _ (omega arith) c.behind_first.ensures c.loop-member.invariant
