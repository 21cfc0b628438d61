-- The things of a row, in their order.
use Rattle.std.specs.Prelude.{◌≡◌, ◌<◌, List, [], ◌∷◌, ◌++◌, length}
use Rattle.ybase_row.specs.declared.row.Parts.{Parts}
use Rattle.ybase_row.specs.declared.row.Parts.TheVariants.{Empty, One, Two}

abbrev pub items : {T : Type 0} → Parts T → List T
items Empty = []
items (One x) = x.value ∷ []
items (Two pair) = pair.value.front ++ pair.value.back

-- both rows of a pair have things, and it is known how many they are together
abbrev pub IsCounted : {T : Type 0} → Parts T → Type 0
IsCounted Empty = Unit {0}
IsCounted (One x) = Unit {0}
IsCounted (Two pair) = (0 < length pair.value.front) × ((0 < length pair.value.back)
    × (pair.value.len ≡ length (pair.value.front ++ pair.value.back)))
