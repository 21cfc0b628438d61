use Rattle.std.proofs.Common.{◌+◌, ◌*◌, ◌<◌, ◌++◌, ◌∷◌, [], drop, length, ap, sym, ◌∙◌, subst, arith, rules}
use Rattle.std.proofs.lemmas.List.{map_push}
use Rattle.json.specs.Json.{object}
use Rattle.json.specs.Tree.{json_tokens, items_tokens, members_tokens}
use Rattle.json.specs.Value.{items_view, members_view, value_view}
use Rattle.json.proofs.Trees.{item_smaller, member_smaller, view-Object}
use Rattle.yspec.specs.Forest.{first_of}
use Rattle.yschema_model.specs.Layout.{number_of}
use Rattle.yschema_model.specs.View.{view}
use Rattle.yinst_tree.specs.View.{place_view, step_view}
use Rattle.ysay_repeated.specs.Found.{steps_of}
use Rattle.ysay_repeated.specs.Repeated.{repeated_members}
use Rattle.ysay_repeated.proofs.RepeatedLemmas.{entry_told, holds_more, member_first, none_found}
use Rattle.ysay_repeated.proofs.place.+places.Goals as goal

pub first_below-returns-clause-found : goal.first_below-returns-clause-found
first_below-returns-clause-found t c =
    let s = view c.args.schema.now in
    let place = place_view c.args.place.now.items in
    let is = ap value_view c.in-Object.is ∙ (view-Object c.in-Object.members ∙ ap (λ vs. object (members_view vs)) (sym c.deref.ensures.value)) in
    c.in_ok-found.ensures.found
    ∙ entry_told s (place ++ step_view c.args.step ∷ []) c.args.step.id.0 (place_view c.push.new.self.items) (value_view c.args.value.now) (members_view c.deref.result.now) is
    (ap place_view c.in_ok-push.ensures.items ∙ map_push step_view c.args.place.now.items c.args.step)

pub first_of_items-first_below-requires : goal.first_of_items-first_below-requires
first_of_items-first_below-requires t c =
    let items = c.args.items.now in
    let v = c.index-items-index.result in
    let smaller : length (json_tokens (value_view v)) < length (items_tokens (items_view items)) =
    subst (λ y. length (json_tokens (value_view y)) < length (items_tokens (items_view items))) (sym c.index-items-index.is) (item_smaller items c.loop-index.index v (omega arith)) in
    let less : 2 * length (json_tokens (value_view v)) < 2 * length (items_tokens (items_view items)) + 1 = omega (arith, smaller) in
    search rules

pub first_of_members-first_at_name-requires : goal.first_of_members-first_at_name-requires
first_of_members-first_at_name-requires t c =
    let ms = c.args.members.now in
    let m = c.member-item.result in
    let smaller : length (json_tokens (value_view m.1)) < length (members_tokens (members_view ms)) =
    subst (λ y. length (json_tokens (value_view y.1)) < length (members_tokens (members_view ms))) (sym c.member-item.is) (member_smaller ms c.loop-member.member-index m (omega arith)) in
    let less : 2 * length (json_tokens (value_view m.1)) + 2 < 2 * length (members_tokens (members_view ms)) + 1 = omega (arith, smaller) in
    search rules

pub first_of_members-returns-in-Some-clause-found :
    goal.first_of_members-returns-in-Some-clause-found
first_of_members-returns-in-Some-clause-found t c =
    let s = view c.args.schema.now in
    let p = number_of c.args.parent in
    let place = place_view c.args.place.now.items in
    let ms = c.args.members.now in
    let m = c.member-item.result in
    let l = c.loop-member in
    let others = repeated_members s p place (m.0.now ∷ l.invariant.1) (members_view (drop (l.member-index + 1) ms)) in
    ap (λ o. first_of (steps_of o) others) (sym c.in-Some.is)
    ∙ member_first s place p l.invariant.1 ms l.member-index m (place_view l.place.items) l.names c.in_ok-is_repeated.field-0 (steps_of c.in_ok-found.field-0) _
    (omega arith) c.member-item.is (ap place_view l.invariant.0) l.invariant.2 c.in_ok-is_repeated.ensures.added c.in_ok-found.ensures.found l.invariant.3

pub first_of_members-loop-member-preserved : goal.first_of_members-loop-member-preserved
first_of_members-loop-member-preserved t c =
    let s = view c.args.schema.now in
    let p = number_of c.args.parent in
    let place = place_view c.args.place.now.items in
    let ms = c.args.members.now in
    let m = c.member-item.result in
    let l = c.loop-member in
    let others = repeated_members s p place (m.0.now ∷ l.invariant.1) (members_view (drop (l.member-index + 1) ms)) in (
      c.in_ok-found.ensures.place ∙ l.invariant.0,
      m.0.now ∷ l.invariant.1,
      holds_more l.names c.insert.new.self m.0 l.invariant.1 c.in_ok-is_repeated.ensures.updates l.invariant.2,
      ap (λ o. first_of (steps_of o) others) (sym (none_found c.in_ok-found.field-0 c.in_default.not-Some))
          ∙ member_first s place p l.invariant.1 ms l.member-index m (place_view l.place.items) l.names c.in_ok-is_repeated.field-0 (steps_of c.in_ok-found.field-0) _
          (omega arith) c.member-item.is (ap place_view l.invariant.0) l.invariant.2 c.in_ok-is_repeated.ensures.added c.in_ok-found.ensures.found l.invariant.3,
    )
