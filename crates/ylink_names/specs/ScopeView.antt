-- Statements where they stand.
use Rattle.std.specs.Prelude.{List}
use Rattle.yspec.specs.Forest.{Forest}
use Rattle.yspec.specs.linking.Source.{Source}
use Rattle.yspec.specs.linking.Scopes.{Placed}

-- a statement with some ancestors; what a name means there doesn't depend on what is below it
abbrev pub placed_at : Source → Forest Source → List (Source × Forest Source) → Placed
placed_at s below ancestors = record { source = s; below = below; ancestors = ancestors }
