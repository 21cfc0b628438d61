use Rattle.std.proofs.Common.{◌≡◌, drop}
use Rattle.serde_json.specs.View.{items_view, members_view}
use Rattle.serde_json.specs.Written.{items_have_float, members_have_float}
use Rattle.yinst_tree.proofs.values.+floats.Given as goal

-- of what is left as of all
abbrev pub invariant-items_have_float-loop-item : goal.invariant-items_have_float-loop-item
invariant-items_have_float-loop-item l = items_have_float (items_view (drop l.item-index l.items)) ≡ items_have_float (items_view l.items)

abbrev pub invariant-members_have_float-loop-value : goal.invariant-members_have_float-loop-value
invariant-members_have_float-loop-value l = members_have_float (members_view l.value-iterator) ≡ members_have_float (members_view l.members.entries)
