-- Marks by number.
use Rattle.std.specs.Prelude.{ℕ, Bool, true, List, [], ◌∷◌, slice_set}

-- marks with those of some numbers set
abbrev pub marked : List Bool → List ℕ → List Bool
marked marks [] = marks
marked marks (n ∷ ns) = marked (slice_set marks n true) ns

-- marks with those set that each of some says
abbrev pub marked_by : {A : Type 0} → (A → List ℕ) → List Bool → List A → List Bool
marked_by says marks [] = marks
marked_by says marks (a ∷ others) = marked_by says (marked marks (says a)) others
