-- Parts that cover alike from a number on.
use Rattle.std.specs.Prelude.{◌≡◌, ℤ, int_lt, true, false, ⊤, List, [], ◌∷◌, Option}
use Rattle.yspec.specs.types.Ranges.{Part, is_covered, is_ascending_from}

abbrev pub CoverAlike : ℤ → List Part → List Part → Type 0
CoverAlike from some all = (low high : ℤ) → int_lt low from ≡ false → is_covered some low high ≡ is_covered all low high

-- from the first number of the first of some parts on
abbrev pub CoverAlikeFrom : List Part → List Part → List Part → Type 0
CoverAlikeFrom [] some all = ⊤
CoverAlikeFrom (p ∷ ps) some all = CoverAlike p.low some all

abbrev pub Ascending : List Part → Type 0
Ascending ps = (before : Option ℤ) × (is_ascending_from before ps ≡ true)
