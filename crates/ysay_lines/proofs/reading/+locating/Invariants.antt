use Rattle.std.proofs.Common.{◌≡◌, ◌+◌, ◌*◌, drop, length}
use Rattle.json.specs.Tree.{json_tokens, items_tokens, members_tokens}
use Rattle.json.specs.Value.{items_view, members_view, value_view}
use Rattle.yschema_model.specs.Layout.{number_of}
use Rattle.yschema_model.specs.View.{view}
use Rattle.ysay_lines.proofs.AnswerLemmas.{AddsEntries, HoldsLast}
use Rattle.ysay_lines.proofs.reading.+locating.Given as goal

-- what stands in a value is smaller than it
abbrev pub decreases-locate : goal.decreases-locate
decreases-locate l = 2 * length (json_tokens (value_view l.value.now))

abbrev pub decreases-locate_items : goal.decreases-locate_items
decreases-locate_items l = 2 * length (items_tokens (items_view l.items.now)) + 1

abbrev pub decreases-locate_members : goal.decreases-locate_members
decreases-locate_members l = 2 * length (members_tokens (members_view l.members.now)) + 1

abbrev pub decreases-locate_member : goal.decreases-locate_member
decreases-locate_member l = 2 * length (json_tokens (value_view l.«member».now.1)) + 1

-- what is told of the others completes what is told of all
abbrev pub invariant-locate_items-loop-item : goal.invariant-locate_items-loop-item
invariant-locate_items-loop-item l =
    AddsEntries (view l.schema) (number_of l.parent) l.entries.items (items_view (drop l.item-index l.items)) l.left (items_view l.items) l.places
    × (drop (length (items_tokens (items_view (drop l.item-index l.items)))) l.left ≡ drop (length (items_tokens (items_view l.items))) l.places)

-- the last so far is told, and the others say which is the last of all
abbrev pub invariant-locate_members-loop-member : goal.invariant-locate_members-loop-member
invariant-locate_members-loop-member l =
    HoldsLast (view l.schema) (number_of l.parent) l.by_node (members_view (drop l.member-index l.members)) l.left (members_view l.members) l.places
    × (drop (length (members_tokens (members_view (drop l.member-index l.members)))) l.left ≡ drop (length (members_tokens (members_view l.members))) l.places)
