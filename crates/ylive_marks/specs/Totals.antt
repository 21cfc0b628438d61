-- How many faults are told at nodes, and the totals of rows.
use Rattle.std.specs.Prelude.{◌≡◌, ℕ, ◌+◌, ◌-◌, ◌<◌, ◌≤◌, ◌^◌, ◌||◌, min, Bool, true, false, [], ◌∷◌, length, Option, None, option_map, if◌then◌else◌, IfSome}
use Rattle.std.specs.List.{sum_by}
use Rattle.std.specs.Option.{option_map_or}
use Rattle.yspec.specs.Forest.{end, node, size, weigh}
use Rattle.ystore.specs.Held.{Told}
use Rattle.ystore.specs.Store.{held_at, label_at, total_at, node_count, same_row, entry_at}
use Rattle.ystore_rows.specs.declared.row.NodeId.{NodeId}
use Rattle.ystore_rows.specs.declared.row.Row.{Row}
use Rattle.ystore_rows.specs.declared.row.Row.TheVariants.{Top, Below}
use Rattle.ystore.specs.declared.key.Key.{Key}
use Rattle.ystore.specs.declared.record.Judged.{Judged}
use Rattle.ystore.specs.declared.record.Judged.TheVariants.{Right, Wrong, Missing}
use Rattle.ystore.specs.declared.nodes.Nodes.{Nodes}
use Rattle.ystore_tree.specs.Hanging.{Branches, Hangs, shape_at, times}
use Rattle.ystore_tree.specs.Ways.{Way}

-- ---- what is told at a row

abbrev pub told_at : Nodes → Row → Option Told
told_at nodes row = option_map (λ held. held.told) (held_at nodes row)

abbrev pub room_at : Nodes → Row → Option ℕ
room_at nodes row = option_map (λ held. held.room) (held_at nodes row)

-- what is told of the value of a node
abbrev pub judged_at : Nodes → NodeId → Option Judged
judged_at nodes id = option_map (λ t. t.judged) (told_at nodes (Below id))

abbrev pub is_told : Judged → Bool
is_told Right = false
is_told (Wrong tag) = true
is_told Missing = true

-- how many faults are told
abbrev pub number_of : Told → ℕ
number_of told = (if is_told told.judged then 1 else 0) + (sum_by (λ b. if b then 1 else 0) told.same + length told.play)

abbrev pub told_count : Nodes → Row → ℕ
told_count nodes row = option_map_or number_of (told_at nodes row) 0

-- ---- totals

-- how many faults are told of the nodes of a forest
abbrev pub all_told : Nodes → Branches → ℕ
all_told nodes f = weigh (λ n. told_count nodes (Below n.id)) f

-- the total of a row is how many faults are told at it, and of the nodes of the row and below it
abbrev pub IsTotal : Nodes → Row → Branches → Type 0
IsTotal nodes row f = total_at nodes row ≡ told_count nodes row + all_told nodes f

abbrev pub AreTotals : Nodes → Branches → Type 0
AreTotals nodes end = Unit {0}
AreTotals nodes (node n below after) = IsTotal nodes (Below n.id) below × AreTotals nodes below × AreTotals nodes after

-- nothing is told at the nodes of a forest, and their totals are 0
abbrev pub TellsNothing : Nodes → Branches → Type 0
TellsNothing nodes f = (id : NodeId) → 0 < times id.0 f → (told_count nodes (Below id) ≡ 0) × (total_at nodes (Below id) ≡ 0)

-- few faults can be told
abbrev pub IsFew : Told → Type 0
IsFew told = (length told.same ≤ 2 ^ 32) × (length told.play ≤ 2 ^ 32)

-- so few faults can be told at each row, and so few nodes there are, that no total is too large to be counted
pub record IsSmall (nodes : Nodes) (f : Branches) : Type 0 where
  pub few : size f ≤ 2 ^ 28
  pub each : (row : Row) → IfSome (told_at nodes row) IsFew

-- all totals of a forest that hangs on the top are right
pub record Totals (nodes : Nodes) (f : Branches) : Type 0 where
  pub top : IsTotal nodes Top f
  pub below : AreTotals nodes f
  pub small : IsSmall nodes f

-- ---- the tree

-- A forest hangs on the top, and no node stands twice. There may be nodes beside it.
pub record IsTree (nodes : Nodes) (f : Branches) : Type 0 where
  pub hangs : Hangs nodes Top f
  pub once : (number : ℕ) → times number f ≤ 1
  pub within : size f ≤ node_count nodes

-- whether a row is the top, or below a node of a forest
abbrev pub StandsIn : Row → Branches → Type 0
StandsIn Top f = Unit {0}
StandsIn (Below id) f = 0 < times id.0 f

-- the row above a row
abbrev pub above_of : Nodes → Row → Option Row
above_of nodes Top = None
above_of nodes (Below id) = option_map (λ l. l.parent) (label_at nodes id)

-- ---- changes

-- whether a row stands below a node on a way
abbrev pub is_below : Way → Row → Bool
is_below [] row = false
is_below (frame ∷ way) row = same_row (Below frame.label.id) row || is_below way row

-- whether a row stands on a way from another: that one, or a row below a node on it
abbrev pub on_way : Row → Way → Row → Bool
on_way above way row = same_row above row || is_below way row

-- a total that is raised, up to the greatest number, and then lowered
abbrev pub moved : ℕ → ℕ → ℕ → ℕ
moved more less total = min (total + more) (2 ^ 64 - 1) - less

-- the totals on a way are raised by some and lowered by others; all other totals stay, and all that is told
pub record Climbs (way : Way) (more less : ℕ) (before after : Nodes) : Type 0 where
  pub totals : (row : Row) → total_at after row ≡ (if on_way Top way row then moved more less (total_at before row) else total_at before row)
  pub told : (row : Row) → told_at after row ≡ told_at before row

-- shapes of rows stay, their room, what keys have, and the number of nodes
pub record OnlyFaults (before after : Nodes) : Type 0 where
  pub shapes : (row : Row) → shape_at after row ≡ shape_at before row
  pub rooms : (row : Row) → room_at after row ≡ room_at before row
  pub entries : (key : Key) → entry_at after key ≡ entry_at before key
  pub node_count : node_count after ≡ node_count before

-- what is told at each row stays
abbrev pub SameTold : Nodes → Nodes → Type 0
SameTold before after = (row : Row) → told_at after row ≡ told_at before row

-- what is told at one row is changed, and at no other
pub record ChangesTold (row : Row) (change : Told → Told) (before after : Nodes) : Type 0 where
  pub changed : told_at after row ≡ option_map change (told_at before row)
  pub others : (other : Row) → same_row row other ≡ false → told_at after other ≡ told_at before other
  pub kept : OnlyFaults before after

-- what is told and the totals of all rows stay
pub record SameFaults (before after : Nodes) : Type 0 where
  pub told : SameTold before after
  pub totals : (row : Row) → total_at after row ≡ total_at before row
