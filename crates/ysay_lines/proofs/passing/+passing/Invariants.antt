use Rattle.std.proofs.Common.{◌≡◌, ◌+◌, ◌*◌, drop, length}
use Rattle.json.specs.Tree.{json_tokens, items_tokens, members_tokens}
use Rattle.json.specs.Value.{items_view, members_view, value_view}
use Rattle.ysay_lines.proofs.passing.+passing.Given as goal

-- what stands in a value is smaller than it
abbrev pub decreases-pass_value : goal.decreases-pass_value
decreases-pass_value l = 2 * length (json_tokens (value_view l.value.now))

abbrev pub decreases-pass_items : goal.decreases-pass_items
decreases-pass_items l = 2 * length (items_tokens (items_view l.items.now)) + 1

abbrev pub decreases-pass_members : goal.decreases-pass_members
decreases-pass_members l = 2 * length (members_tokens (members_view l.members.now)) + 1

-- behind what is left of the values is behind them all
abbrev pub invariant-pass_items-loop-item : goal.invariant-pass_items-loop-item
invariant-pass_items-loop-item l =
    drop (length (items_tokens (items_view (drop l.item-index l.items)))) l.left ≡ drop (length (items_tokens (items_view l.items))) l.places

abbrev pub invariant-pass_members-loop-member : goal.invariant-pass_members-loop-member
invariant-pass_members-loop-member l =
    drop (length (members_tokens (members_view (drop l.member-index l.members)))) l.left ≡ drop (length (members_tokens (members_view l.members))) l.places
