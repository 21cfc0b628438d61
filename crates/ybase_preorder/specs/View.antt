-- Rows of siblings as forests.
use Rattle.std.specs.Prelude.{◌≡◌, ℕ, suc, ◌+◌, List, Option, Some, None}
use Rattle.yspec.specs.Forest.{Forest, end, node, size}
use Rattle.ybase_preorder.specs.Layout.{forest_of, numbered_by}
use Rattle.ybase_preorder.specs.declared.slot.Slot.{Slot}
use Rattle.ybase_preorder.specs.declared.table.Table.{Table}
use Rattle.ybase_preorder.specs.declared.siblings.Siblings.{Siblings}
use Rattle.ybase_preorder.specs.declared.siblings.Node.{Node}

-- what is left of a row
abbrev pub row_view : {L : Type 0} → Siblings L → Forest L
row_view c = forest_of c.slots.now

-- a node of a row, and what stands below it
abbrev pub label_of : {L : Type 0} → Node L → L
label_of c = c.label.now

abbrev pub below_of : {L : Type 0} → Node L → Forest L
below_of c = row_view c.children

-- A step over a row: it gives the first node, with its number and what stands below it, and leaves the others.
abbrev pub TakesFirst : {L : Type 0} → Siblings L → Option (Node L) → Siblings L → Type 0
TakesFirst before None after = (row_view before ≡ end) × (row_view after ≡ end)
TakesFirst before (Some c) after = (row_view before ≡ node (label_of c) (below_of c) (row_view after))
    × (c.number ≡ before.number) × (c.children.number ≡ before.number + 1)
    × (after.number ≡ before.number + suc (size (below_of c)))

-- the row with other labels, which may depend on their numbers
abbrev pub row_by : {L M : Type 0} → (ℕ → L → M) → Siblings L → Forest M
row_by see c = numbered_by see c.number (row_view c)

abbrev pub label_by : {L M : Type 0} → (ℕ → L → M) → Node L → M
label_by see c = see c.number (label_of c)

-- what lies in a table
abbrev pub slots_in : {L : Type 0} → Table L → List (Slot L)
slots_in t = t.slots.items

abbrev pub forest_in : {L : Type 0} → Table L → Forest L
forest_in t = forest_of t.slots.items
