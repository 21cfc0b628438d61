use Rattle.std.proofs.Common.{◌≡◌, drop}
use Rattle.std.specs.Prelude.{nat_le}
use Rattle.serde_json.specs.Data.{items_depth, members_depth}
use Rattle.serde_json.specs.View.{items_view, members_view}
use Rattle.yinst_tree.proofs.values.+nesting.Given as goal

-- what is left is no deeper where all is no deeper
abbrev pub invariant-items_nest_within-loop-item : goal.invariant-items_nest_within-loop-item
invariant-items_nest_within-loop-item l = nat_le (items_depth (items_view (drop l.item-index l.items))) l.most ≡ nat_le (items_depth (items_view l.items)) l.most

abbrev pub invariant-members_nest_within-loop-value : goal.invariant-members_nest_within-loop-value
invariant-members_nest_within-loop-value l = nat_le (members_depth (members_view l.value-iterator)) l.most ≡ nat_le (members_depth (members_view l.members.entries)) l.most
