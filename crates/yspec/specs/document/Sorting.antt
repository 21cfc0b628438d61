-- Rows whose stored nodes stand in the order of their schema nodes' numbers, gone through from the front.
use Rattle.std.specs.Prelude.{ℕ, ◌≤◌, ◌==◌, List, [], ◌∷◌, if◌then◌else◌, nat_lt}
use Rattle.yspec.specs.Forest.{end, node}
use Rattle.yspec.specs.document.Document.{Stored, Tree}

-- no number of the row is smaller
abbrev pub StartsAt : ℕ → Tree → Type 0
StartsAt number end = Unit {0}
StartsAt number (node s below after) = number ≤ s.schema_number

abbrev pub IsSorted : Tree → Type 0
IsSorted end = Unit {0}
IsSorted (node s below after) = StartsAt s.schema_number after × IsSorted below × IsSorted after

-- what is left of it from a number on
abbrev pub from_number : ℕ → Tree → Tree
from_number number end = end
from_number number (node s below after) = if nat_lt s.schema_number number then from_number number after else node s below after

-- what a function says of each of the instances of a schema node with which a row begins
abbrev pub each_front : {A : Type 0} → ℕ → (Stored → Tree → A) → Tree → List A
each_front number said end = []
each_front number said (node s below after) =
    if s.schema_number == number then said s below ∷ each_front number said after else []
