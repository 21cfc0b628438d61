-- How rings of one size stand in a list, and in which order they are read.
use Rattle.std.specs.Prelude.{ℕ, List, [], ◌∷◌, ◌++◌, ◌+◌, ◌-◌, ltb, drop, take, if◌then◌else◌}

-- a ring from its start on
abbrev pub from_start : {T : Type 0} → ℕ → List T → List T
from_start start ring = drop start ring ++ take start ring

-- the rings, each from its start on, and what stands behind them
abbrev pub in_order : {T : Type 0} → ℕ → List ℕ → List T → List T
in_order size [] places = places
in_order size (start ∷ starts) places = from_start start (take size places) ++ in_order size starts (drop size places)

-- where in a ring the one at a place stands
abbrev pub in_ring : ℕ → ℕ → ℕ → ℕ
in_ring size start place = if ltb (start + place) size then start + place else start + place - size

-- where the one at a place stands
abbrev pub index : ℕ → List ℕ → ℕ → ℕ
index size [] place = place
index size (start ∷ starts) place = if ltb place size then in_ring size start place else size + index size starts (place - size)
