use Rattle.std.proofs.Common.{◌+◌, ◌*◌, ◌<◌, drop, length, Some, None, cond, get_or, ap, sym, ◌∙◌, subst, refl, arith, rules}
use Rattle.json.specs.Json.{array, object}
use Rattle.json.specs.Tree.{json_tokens, items_tokens, members_tokens}
use Rattle.json.specs.Value.{items_view, members_view, value_view}
use Rattle.json.proofs.Trees.{item_smaller, member_smaller, view-Array, view-Object}
use Rattle.yschema_model.specs.Layout.{number_of}
use Rattle.yschema_model.specs.View.{view}
use Rattle.ysay_lines.proofs.AnswerLemmas.{all_held, array_tells, entries_all, entry_more, member_held, none_held, none_more, object_tells, one_more, single_tells, tells_same}
use Rattle.ysay_lines.proofs.PassingLemmas.{array_passed, item_passed, items_passed, member_passed, members_passed, object_passed, single, single_passed}
use Rattle.ysay_lines.specs.Found.{TellsEach, TellsLast}
use Rattle.ysay_lines.specs.declared.located.Located.{Single, Array, Object}
use Rattle.ysay_lines.proofs.reading.+locating.Goals as goal

pub locate_items-locate-requires : goal.locate_items-locate-requires
locate_items-locate-requires t c =
    let items = c.args.items.now in
    let v = c.item-item.result in
    let smaller : length (json_tokens (value_view v)) < length (items_tokens (items_view items)) =
    subst (λ y. length (json_tokens (value_view y)) < length (items_tokens (items_view items))) (sym c.item-item.is) (item_smaller items c.loop-item.item-index v (omega arith)) in
    let less : 2 * length (json_tokens (value_view v)) < 2 * length (items_tokens (items_view items)) + 1 = omega (arith, smaller) in
    search rules

pub locate_members-locate_member-requires : goal.locate_members-locate_member-requires
locate_members-locate_member-requires t c =
    let ms = c.args.members.now in
    let m = c.member-item.result in
    let smaller : length (json_tokens (value_view m.1)) < length (members_tokens (members_view ms)) =
    subst (λ y. length (json_tokens (value_view y.1)) < length (members_tokens (members_view ms))) (sym c.member-item.is) (member_smaller ms c.loop-member.member-index m (omega arith)) in
    let less : 2 * length (json_tokens (value_view m.1)) + 1 < 2 * length (members_tokens (members_view ms)) + 1 = omega (arith, smaller) in
    search rules

pub locate-returns-in_ok-entries-in-Array : goal.locate-returns-in_ok-entries-in-Array
locate-returns-in_ok-entries-in-Array t c =
    let s = view c.args.schema.now in
    let p = number_of c.args.parent in
    let found = c.in_ok-entries-in-Array in
    let places = c.args.places.now in
    let vs = c.deref.result.now in
    let here = c.first_of-here.result in
    let is = ap value_view c.in-Array.is ∙ (view-Array c.in-Array.items ∙ ap (λ us. array (items_view us)) (sym c.deref.ensures.value)) in (
      tells_same s p (Array here found.entries) (array (items_view vs)) (value_view c.args.value.now) places (sym is)
          (array_tells s p here found.entries (items_view vs) places c.first_of-here.ensures
          (subst (TellsEach s p found.entries.items (items_view vs)) c.behind_first-inside.ensures found.ensures.0)),
      array_passed (value_view c.args.value.now) c.in-Array.items vs places c.behind_first-inside.result.now found.left.now (ap value_view c.in-Array.is) c.deref.ensures.value
          c.behind_first-inside.ensures found.ensures.1,
    )

pub locate-returns-in_ok-by_node-in-Object : goal.locate-returns-in_ok-by_node-in-Object
locate-returns-in_ok-by_node-in-Object t c =
    let s = view c.args.schema.now in
    let p = number_of c.args.parent in
    let found = c.in_ok-by_node-in-Object in
    let places = c.args.places.now in
    let ms = c.deref-in-Object.result.now in
    let here = c.first_of-here.result in
    let is = ap value_view c.in-Object.is ∙ (view-Object c.in-Object.members ∙ ap (λ us. object (members_view us)) (sym c.deref-in-Object.ensures.value)) in (
      tells_same s p (Object here found.by_node) (object (members_view ms)) (value_view c.args.value.now) places (sym is)
          (object_tells s p here found.by_node (members_view ms) places c.first_of-here.ensures
          (subst (TellsLast s p found.by_node (members_view ms)) c.behind_first-inside.ensures found.ensures.0)),
      object_passed (value_view c.args.value.now) c.in-Object.members ms places c.behind_first-inside.result.now found.left.now (ap value_view c.in-Object.is) c.deref-in-Object.ensures.value
          c.behind_first-inside.ensures found.ensures.1,
    )

pub locate-returns-in_default : goal.locate-returns-in_default
locate-returns-in_default t c =
    let s = view c.args.schema.now in
    let p = number_of c.args.parent in
    let j = value_view c.args.value.now in
    let places = c.args.places.now in
    let alone = single c.args.value.now c.in_default.not-Array c.in_default.not-Object in
    (single_tells s p c.first_of-here.result j places alone c.first_of-here.ensures, c.behind_first-inside.ensures ∙ single_passed j places alone)

pub locate_items-loop-item-preserved : goal.locate_items-loop-item-preserved
locate_items-loop-item-preserved t c =
    let l = c.loop-item in
    let items = c.args.items.now in
    let found = c.in_ok-located in (
      entry_more (view c.args.schema.now) (number_of c.args.parent) (items_view items) c.args.places.now items l.item-index c.item-item.result found.located l.entries.items c.push.new.self.items
          l.left.now found.rest.now (omega arith) c.item-item.is found.ensures.0 found.ensures.1 c.in_ok-push.ensures.items l.invariant.0,
      item_passed items l.item-index c.item-item.result l.left.now found.rest.now _ (omega arith) c.item-item.is found.ensures.1 l.invariant.1,
    )

pub locate_items-returns : goal.locate_items-returns
locate_items-returns t c =
    let l = c.loop-item in
    let items = c.args.items.now in (
      entries_all (view c.args.schema.now) (number_of c.args.parent) (items_view items) c.args.places.now items l.item-index l.entries.items l.left.now (omega arith) l.invariant.0,
      items_passed items l.item-index l.left.now c.behind_first.result.now _ (omega arith) c.behind_first.ensures l.invariant.1,
    )

pub locate_members-loop-member-preserved : goal.locate_members-loop-member-preserved
locate_members-loop-member-preserved t c =
    let l = c.loop-member in
    let ms = c.args.members.now in
    let found = c.in_ok-rest in
    let inside = c.behind_first-inside in (
      member_held (view c.args.schema.now) (number_of c.args.parent) (members_view ms) c.args.places.now ms l.member-index c.member-item.result l.by_node c.locate_member.new.by_node
          l.left.now inside.result.now found.rest.now (omega arith) c.member-item.is inside.ensures found.ensures.left found.ensures.more l.invariant.0,
      member_passed ms l.member-index c.member-item.result l.left.now inside.result.now found.rest.now _ (omega arith) c.member-item.is inside.ensures found.ensures.left l.invariant.1,
    )

pub locate_members-returns : goal.locate_members-returns
locate_members-returns t c =
    let l = c.loop-member in
    let ms = c.args.members.now in (
      all_held (view c.args.schema.now) (number_of c.args.parent) ms l.member-index l.by_node (members_view ms) l.left.now c.args.places.now (omega arith) l.invariant.0,
      members_passed ms l.member-index l.left.now c.behind_first.result.now _ (omega arith) c.behind_first.ensures l.invariant.1,
    )

pub locate_member-returns-in_ok-insert-in-Some-clause-more : goal.locate_member-returns-in_ok-insert-in-Some-clause-more
locate_member-returns-in_ok-insert-in-Some-clause-more t c =
    let m = c.args.«member».now in
    one_more (view c.args.schema.now) (number_of c.args.parent) c.args.by_node.now c.insert.new.self c.in-Some.id c.in_ok-located-in-Some.located m.0.now (value_view m.1, c.args.places.now)
    (sym c.child_written.ensures ∙ ap number_of c.in-Some.is) c.in_ok-located-in-Some.ensures.0 c.in_ok-insert-in-Some.ensures.updates.0
