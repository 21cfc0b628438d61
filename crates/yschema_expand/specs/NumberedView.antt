-- Nodes of a table with their numbers.
use Rattle.std.specs.Prelude.{ℕ, ◌-◌, List, take, drop}
use Rattle.yspec.specs.Forest.{Forest}
use Rattle.yspec.specs.linking.Parts.{Part}
use Rattle.ybase_preorder.specs.Layout.{forest_of, numbered_by}
use Rattle.ybase_preorder.specs.declared.slot.Slot.{Slot}
use Rattle.yschema_expand.specs.NodeView.{part_view}
use Rattle.yschema_expand.specs.declared.nodes.ExpandedNode.{ExpandedNode}

-- a label with the number of its node
pub record Numbered (L : Type 0) : Type 0 where
  pub number : ℕ
  pub label : L

abbrev pub with_number : ℕ → ExpandedNode → Numbered Part
with_number number n = record { number = number; label = part_view n }

-- the nodes that lie from one number to another
abbrev pub rows_between : ℕ → ℕ → List (Slot ExpandedNode) → Forest (Numbered Part)
rows_between first past slots = numbered_by with_number first (forest_of (take (past - first) (drop first slots)))
