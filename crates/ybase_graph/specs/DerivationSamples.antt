-- Graphs of the worked examples of derivation.
use Rattle.std.specs.Prelude.{List, [], ◌∷◌}
use Rattle.yspec.specs.linking.Graph.{Edge}

-- 0 leads to 1 and 2, and 2 to 3
abbrev pub two_bases : List Edge
two_bases = record { source = 0; target = 1 } ∷ record { source = 0; target = 2 } ∷ record { source = 2; target = 3 } ∷ []

-- 0 leads into a circle of 1 and 2
abbrev pub circle : List Edge
circle = record { source = 0; target = 1 } ∷ record { source = 1; target = 2 } ∷ record { source = 2; target = 1 } ∷ []
