-- Nodes put last below one of some nodes, by its number, and how numbers change by that.
use Rattle.std.specs.Prelude.{ℕ, zero, suc, ◌+◌, ◌-◌, ◌^◌, ◌==◌, nat_lt, min, List, [], ◌∷◌, Option, Some, None, option_map, if◌then◌else◌}
use Rattle.yspec.specs.Forest.{Forest, end, node, join, size}
use Rattle.yspec.specs.linking.Parts.{Part}
use Rattle.ybase_preorder.specs.Layout.{Place}

-- the new number of a node above one that moves, where those from a number on come to be those from another on
abbrev pub moved : ℕ → ℕ → ℕ → ℕ
moved from to number = min ((number - from) + to) (2 ^ 32 - 1)

-- how many stand below one of the next nodes, so many before the last of which a target is, once so many more stand below that
abbrev pub wider : ℕ → ℕ → ℕ → ℕ
wider count left below = if nat_lt below left then below else min (below + count) (2 ^ 64 - 1)

-- how many of the places behind one stand below it, or below one before it, of which so many are left
abbrev pub left_behind : ℕ → ℕ → ℕ
left_behind zero below = below
left_behind (suc left) below = left

module _ {L : Type 0} where
  -- of places, so many of which stand below one before them: what stands above one that moves, but the top ones stay where they stand
  abbrev pub moved_one : (ℕ → ℕ) → ℕ → Place L → Place L
  moved_one change zero p = p
  moved_one change (suc left) p = record p { parent = option_map change p.parent }

  abbrev pub shifted : (ℕ → ℕ) → ℕ → List (Place L) → List (Place L)
  shifted change left [] = []
  shifted change left (p ∷ ps) = moved_one change left p ∷ shifted change (left_behind left p.below) ps

  -- those from a number on
  abbrev pub shifted_from : ℕ → (ℕ → ℕ) → ℕ → List (Place L) → List (Place L)
  shifted_from zero change left ps = shifted change left ps
  shifted_from (suc n) change left [] = []
  shifted_from (suc n) change left (p ∷ ps) = p ∷ shifted_from n change left ps

  abbrev pub widened_one : ℕ → ℕ → Place L → Place L
  widened_one count left p = record p { below = wider count left p.below }

  -- from a number on so many, the last of which is a target
  abbrev pub widened : ℕ → ℕ → ℕ → List (Place L) → List (Place L)
  widened count n zero ps = ps
  widened count n (suc left) [] = []
  widened count zero (suc left) (p ∷ ps) = widened_one count left p ∷ widened count zero left ps
  widened count (suc n) (suc left) (p ∷ ps) = p ∷ widened count n (suc left) ps

-- Among nodes counted from a number on those that are added come last below the one of another number.
abbrev pub put_at : ℕ → ℕ → Forest Part → Forest Part → Forest Part
put_at target number added end = end
put_at target number added (node p below after) = if target == number then node p (join below added) after
    else (if nat_lt target (number + suc (size below)) then node p (put_at target (number + 1) added below) after
    else node p below (put_at target (number + suc (size below)) added after))

-- where there is such a one; else they go
abbrev pub hung_at : Option ℕ → ℕ → Forest Part → Forest Part → Forest Part
hung_at None number added f = f
hung_at (Some target) number added f = put_at target number added f
