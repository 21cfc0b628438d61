use Rattle.std.proofs.Common.{◌≡◌, ◌+◌, ◌++◌, drop}
use Rattle.serde_json.specs.View as json
use Rattle.yschema_model.specs.Layout.{number_of}
use Rattle.yschema_model.specs.View.{view}
use Rattle.yinst_tree.specs.View.{place_view}
use Rattle.ysay_refusals.specs.Remarks.{member_remarks, item_remarks}
use Rattle.ysay_refusals.specs.View.{remarks_view}
use Rattle.ysay_refusals.proofs.RemarkLemmas.{remarks_at}
use Rattle.ysay_refusals.proofs.walk.+remarks.Given as goal

-- what is found, and what is to be found of the members that are left, is all that is found
abbrev pub invariant-remark_members-loop-name : goal.invariant-remark_members-loop-name
invariant-remark_members-loop-name l =
    let found = member_remarks (view l.schema) (number_of l.parent) (place_view l.fn.place.items) in
    (l.place.items ≡ l.fn.place.items)
    × (remarks_view l.remarks.items ++ found (json.members_view l.name-iterator) ≡ remarks_view l.fn.remarks.items ++ found (json.members_view l.members.entries))

abbrev pub invariant-remark_items-loop-index : goal.invariant-remark_items-loop-index
invariant-remark_items-loop-index l =
    let s = view l.schema in
    let place = place_view l.fn.place.items in
    (l.place.items ≡ l.fn.place.items)
    × (remarks_view l.remarks.items ++ remarks_at s l.id.0 (λ n. item_remarks s n place (l.index + 1) (json.items_view (drop l.index l.items)))
    ≡ remarks_view l.fn.remarks.items ++ remarks_at s l.id.0 (λ n. item_remarks s n place 1 (json.items_view l.items)))
