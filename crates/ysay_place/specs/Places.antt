-- What stands in a document where steps lead.
use Rattle.std.specs.Prelude.{ℕ, zero, suc, ◌-◌, ◌==◌, List, [], ◌∷◌, Option, Some, None, if◌then◌else◌}
use Rattle.std.specs.Option.{option_map_or}
use Rattle.yspec.specs.Forest.{end, node}
use Rattle.yspec.specs.document.Document.{Stored, Tree, Step}

-- the instance of a schema node at an index in a row, from 0, and the row below it
abbrev pub nth_instance : ℕ → ℕ → Tree → Option (Stored × Tree)
nth_instance number index end = None
nth_instance number zero (node s below after) =
    if s.schema_number == number then Some (s, below) else nth_instance number zero after
nth_instance number (suc index) (node s below after) =
    if s.schema_number == number then nth_instance number index after else nth_instance number (suc index) after

-- positions count from 1; where there is none, the first instance is meant
abbrev pub index_of : Option ℕ → ℕ
index_of None = 0
index_of (Some position) = position - 1

-- the instance to which a step leads from a row, and the row below it, in which nothing stands where there is none
abbrev pub instance_to : Tree → Step → Option (Stored × Tree)
instance_to row step = nth_instance step.schema_number (index_of step.position) row

abbrev pub row_to : Tree → Step → Tree
row_to row step = option_map_or (λ found. found.1) (instance_to row step) end

abbrev pub row_at : Tree → List Step → Tree
row_at row [] = row
row_at row (step ∷ steps) = row_at (row_to row step) steps

-- ---- the last step to a place, and the steps above it

abbrev pub last_step : List Step → Option Step
last_step [] = None
last_step (step ∷ []) = Some step
last_step (step ∷ next ∷ steps) = last_step (next ∷ steps)

abbrev pub steps_above : List Step → List Step
steps_above [] = []
steps_above (step ∷ []) = []
steps_above (step ∷ next ∷ steps) = step ∷ steps_above (next ∷ steps)
