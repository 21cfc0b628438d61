-- What is so at each node of what hangs on a row.
use Rattle.std.specs.Prelude.{ℕ, ◌+◌, [], ◌∷◌}
use Rattle.yspec.specs.Forest.{end, node}
use Rattle.ystore_rows.specs.declared.row.Row.{Row}
use Rattle.ystore_rows.specs.declared.row.Row.TheVariants.{Below}
use Rattle.ystore_tree.specs.Hanging.{Numbered, Branches, is_number, times}
use Rattle.ystore_tree.specs.Ways.{Way, around}

-- of the row in which it stands, the node, and what stands below it
abbrev pub Each : (Row → Numbered → Branches → Type 0) → Row → Branches → Type 0
Each Q above end = Unit {0}
Each Q above (node n below after) = Q above n below × Each Q (Below n.id) below × Each Q above after

-- the same of the nodes on a way, with one row and with another at its end
abbrev pub OnWay : (Row → Numbered → Branches → Type 0) → Row → Way → Branches → Type 0
OnWay Q above [] f = Unit {0}
OnWay Q above (frame ∷ way) f = Q above frame.label (around way f) × OnWay Q (Below frame.label.id) way f

-- of all nodes beside and on a way, with one row at its end
abbrev pub Around : (Row → Numbered → Branches → Type 0) → Row → Way → Branches → Type 0
Around Q above [] f = Unit {0}
Around Q above (frame ∷ way) f =
    Each Q above frame.before × Q above frame.label (around way f) × Each Q above frame.after × Around Q (Below frame.label.id) way f

-- how often a number stands beside a way
abbrev pub beside_way : ℕ → Way → ℕ
beside_way number [] = 0
beside_way number (frame ∷ way) = times number frame.before + (times number frame.after + beside_way number way)

-- and on it
abbrev pub on_way : ℕ → Way → ℕ
on_way number [] = 0
on_way number (frame ∷ way) = is_number number frame.label + on_way number way

-- the sum of what each weighs, by the row in which it stands
abbrev pub weigh_at : (Row → Numbered → Branches → ℕ) → Row → Branches → ℕ
weigh_at w above end = 0
weigh_at w above (node n below after) = w above n below + (weigh_at w (Below n.id) below + weigh_at w above after)

-- the same of the nodes of the row alone
abbrev pub weigh_beside : (Row → Numbered → Branches → ℕ) → Row → Branches → ℕ
weigh_beside w above end = 0
weigh_beside w above (node n below after) = w above n below + weigh_beside w above after
