-- The augments that modules state.
use Rattle.std.specs.Prelude.{ℕ, List, [], ◌∷◌, length}
use Rattle.yspec.specs.Forest.{Forest, end, node}
use Rattle.yspec.specs.linking.Source.{Source}
use Rattle.yspec.specs.linking.Augments.{augments_in}

-- how many each of a row of modules states
abbrev pub augment_counts : Forest Source → List ℕ
augment_counts end = []
augment_counts (node s below after) = length (augments_in below) ∷ augment_counts after
