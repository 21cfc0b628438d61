use Rattle.std.proofs.Common.{◌≡◌, ◌+◌, ◌++◌, List, drop}
use Rattle.serde_json.specs.View as json
use Rattle.yspec.specs.document.Reading.{Visit, member_visits, item_visits}
use Rattle.yspec.specs.schema.Schema.{module_at, row_at}
use Rattle.yschema_model.specs.Layout.{number_of}
use Rattle.yschema_model.specs.View.{view}
use Rattle.yinst_tree.specs.View.{place_view}
use Rattle.yinst_tree.specs.Told.{told_within, visits_at}
use Rattle.yinst_tree.proofs.visits.+visits.Given as goal

-- what is told of the members that are left, and of whatever follows, is told of all
abbrev pub invariant-visit_members-loop-name : goal.invariant-visit_members-loop-name
invariant-visit_members-loop-name l =
    let s = view l.schema in
    let p = number_of l.parent in
    let place = place_view l.fn.place.items in
    (l.place.items ≡ l.fn.place.items)
    × ((others : List Visit) → told_within l.left (member_visits s (module_at s p) (row_at s p) place (json.members_view l.name-iterator) ++ others)
    ≡ told_within l.fn.room (member_visits s (module_at s p) (row_at s p) place (json.members_view l.members.entries) ++ others))

abbrev pub invariant-visit_items-loop-index : goal.invariant-visit_items-loop-index
invariant-visit_items-loop-index l =
    let s = view l.schema in
    let place = place_view l.fn.place.items in
    (l.place.items ≡ l.fn.place.items)
    × ((others : List Visit) → told_within l.left (visits_at s l.id.0 (λ n below. item_visits s n below place (l.index + 1) (json.items_view (drop l.index l.items))) ++ others)
    ≡ told_within l.fn.room (visits_at s l.id.0 (λ n below. item_visits s n below place 1 (json.items_view l.items)) ++ others))
