use Rattle.std.proofs.Common.{◌≡◌, ◌+◌, ◌*◌, List, [], drop, length}
use Rattle.json.specs.Tree.{json_tokens, items_tokens, members_tokens}
use Rattle.json.specs.Value.{items_view, members_view, value_view}
use Rattle.yspec.specs.text.Text.{Text}
use Rattle.yschema_model.specs.Layout.{number_of}
use Rattle.yschema_model.specs.View.{view}
use Rattle.yinst_tree.specs.View.{place_view}
use Rattle.ysay_repeated.specs.Repeated.{repeated_items, repeated_members}
use Rattle.ysay_repeated.proofs.RepeatedLemmas.{HoldsNames}
use Rattle.ysay_repeated.proofs.place.+places.Given as goal

-- what stands in a value is smaller than it
abbrev pub decreases-first_of_members : goal.decreases-first_of_members
decreases-first_of_members l = 2 * length (members_tokens (members_view l.members.now)) + 1

abbrev pub decreases-first_at_name : goal.decreases-first_at_name
decreases-first_at_name l = 2 * length (json_tokens (value_view l.«member».now.1)) + 2

abbrev pub decreases-first_in_value : goal.decreases-first_in_value
decreases-first_in_value l = 2 * length (json_tokens (value_view l.value.now)) + 1

abbrev pub decreases-first_of_items : goal.decreases-first_of_items
decreases-first_of_items l = 2 * length (items_tokens (items_view l.items.now)) + 1

abbrev pub decreases-first_below : goal.decreases-first_below
decreases-first_below l = 2 * length (json_tokens (value_view l.value.now))

-- the set holds the names so far, and what is given twice behind them is what is given twice
abbrev pub invariant-first_of_members-loop-member : goal.invariant-first_of_members-loop-member
invariant-first_of_members-loop-member l =
    let s = view l.schema in
    let p = number_of l.parent in
    let place = place_view l.fn.place.items in
    (l.place.items ≡ l.fn.place.items) × (names : List Text) × HoldsNames l.names names
    × (repeated_members s p place names (members_view (drop l.member-index l.members)) ≡ repeated_members s p place [] (members_view l.members))

abbrev pub invariant-first_of_items-loop-index : goal.invariant-first_of_items-loop-index
invariant-first_of_items-loop-index l =
    let s = view l.schema in
    let place = place_view l.fn.place.items in
    (l.place.items ≡ l.fn.place.items)
    × (repeated_items s l.id.0 place (l.index + 1) (items_view (drop l.index l.items)) ≡ repeated_items s l.id.0 place 1 (items_view l.items))
