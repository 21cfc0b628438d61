-- What is said of each module of a set, by its number.
use Rattle.std.specs.Prelude.{ℕ, ◌+◌, List, [], ◌∷◌}
use Rattle.yspec.specs.Forest.{Forest, end, node}
use Rattle.yspec.specs.linking.Source.{Source}

-- of what stands below each of a row of `module` statements, the first of which has a number
abbrev pub by_place : {B : Type 0} → (ℕ → Forest Source → B) → ℕ → Forest Source → List B
by_place says place end = []
by_place says place (node s below after) = says place below ∷ by_place says (place + 1) after
