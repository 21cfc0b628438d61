-- How the trees of a forest lie in slots: each node before those below it, with how many these are.
use Rattle.std.specs.Prelude.{◌≡◌, ℕ, zero, suc, ◌+◌, length, take, drop, map, List, [], ◌∷◌, ◌++◌, Option, Some, None}
use Rattle.yspec.specs.Forest.{Forest, end, node, size}
use Rattle.ybase_preorder.specs.declared.slot.Slot.{Slot}

-- a node, the number of the one above it, and how many stand below it
pub record Place (L : Type 0) : Type 0 where
  pub parent : Option ℕ
  pub label : L
  pub below : ℕ

-- the places of the trees of a forest below a node, counted from a number on
abbrev pub places : {L : Type 0} → Option ℕ → ℕ → Forest L → List (Place L)
places parent number end = []
places parent number (node l below after) = record { parent = parent; label = l; below = size below }
    ∷ (places (Some number) (number + 1) below ++ places parent (number + suc (size below)) after)

abbrev pub place_of : {L : Type 0} → Slot L → Place L
place_of r = record { parent = r.parent; label = r.label; below = r.below }

-- what lies in slots
abbrev pub laid : {L : Type 0} → List (Slot L) → List (Place L)
laid slots = map place_of slots

-- The forest whose nodes lie there in preorder. There are at most so many slots.
unfoldable pub forest_within : {L : Type 0} → ℕ → List (Slot L) → Forest L
forest_within zero slots = end
forest_within (suc n) [] = end
forest_within (suc n) (r ∷ slots) =
    node r.label (forest_within n (take r.below slots)) (forest_within n (drop r.below slots))

abbrev pub forest_of : {L : Type 0} → List (Slot L) → Forest L
forest_of slots = forest_within (length slots) slots

-- the parent of each slot is the node that it stands below, and each says how many stand below it
abbrev pub IsLaidOut : {L : Type 0} → List (Slot L) → Type 0
IsLaidOut slots = laid slots ≡ places None 0 (forest_of slots)

-- ---- how a table grows

-- a node with nothing below it yet
abbrev pub opened : {L : Type 0} → Option ℕ → L → Place L
opened parent label = record { parent = parent; label = label; below = 0 }

-- the places once all behind one of them stand below it
abbrev pub closed : {L : Type 0} → ℕ → List (Place L) → List (Place L)
closed number [] = []
closed zero (p ∷ ps) = record { parent = p.parent; label = p.label; below = length ps } ∷ ps
closed (suc number) (p ∷ ps) = p ∷ closed number ps

-- ---- slots as other labels, which may depend on their numbers

abbrev pub seen : {L M : Type 0} → (ℕ → L → M) → ℕ → List (Place L) → List (Place M)
seen see number [] = []
seen see number (p ∷ ps) =
    record { parent = p.parent; label = see number p.label; below = p.below } ∷ seen see (number + 1) ps

abbrev pub numbered_by : {L M : Type 0} → (ℕ → L → M) → ℕ → Forest L → Forest M
numbered_by see number end = end
numbered_by see number (node l below after) = node (see number l) (numbered_by see (number + 1) below)
    (numbered_by see (number + suc (size below)) after)

-- the labels of slots, the first of which has a number
abbrev pub labels_by : {L M : Type 0} → (ℕ → L → M) → ℕ → List (Slot L) → List M
labels_by see number [] = []
labels_by see number (r ∷ slots) = see number r.label ∷ labels_by see (number + 1) slots

-- the slots lie as a forest of these labels does
abbrev pub Shows : {L M : Type 0} → (ℕ → L → M) → List (Slot L) → Forest M → Type 0
Shows see slots f = seen see 0 (laid slots) ≡ places None 0 f
