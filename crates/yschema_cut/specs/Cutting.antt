-- Which statements hold, and which parts stand themselves, by their numbers.
use Rattle.std.specs.Prelude.{◌≡◌, ◌&&◌, ℕ, ◌+◌, Bool, true, not, List, [], ◌∷◌, Some, get_or, slice_get}
use Rattle.yspec.specs.Forest.{Forest, preorder}
use Rattle.yspec.specs.linking.Parts.{Part}
use Rattle.yspec.specs.linking.Source.{Source}
use Rattle.yspec_wide.specs.Language.{Language}
use Rattle.yspec_wide.specs.Sources.{bears_when, is_operation}
use Rattle.yspec_wide.specs.Standing.{is_standing}
use Rattle.yschema_given.specs.Holding.{holds_in, kept_hold}

-- of each of some statements, from a number on, what is told of that
abbrev pub told_from : {A : Type 0} → (ℕ → Bool) → ℕ → List A → List Bool
told_from tell number [] = []
told_from tell number (x ∷ xs) = tell number ∷ told_from tell (number + 1) xs

-- whether a part is no operation, and its conditions hold by their numbers
abbrev pub stands_by : Language → List Bool → Part → Bool
stands_by language holding p = not (is_operation language p.source) && kept_hold (holds_in holding) p.own

-- it is told of each part of a forest whether it stands, whatever stands above it
abbrev pub TellsStanding : List Bool → Language → Forest Source → Forest Part → Type 0
TellsStanding standing language modules parts = (number : ℕ) (p : Part) → slice_get (preorder parts) number ≡ Some p
    → get_or standing number true ≡ is_standing language modules p

-- and whether it bears no `when`
abbrev pub TellsUnguarded : List Bool → Language → Forest Part → Type 0
TellsUnguarded unguarded language parts = (number : ℕ) (p : Part) → slice_get (preorder parts) number ≡ Some p
    → get_or unguarded number true ≡ not (bears_when language p.own)
