-- Rows that have the same statements of a keyword.
use Rattle.std.specs.Prelude.{◌≡◌}
use Rattle.yspec.specs.Forest.{Forest}
use Rattle.yspec.specs.linking.Keyword.{Keyword}
use Rattle.yspec.specs.linking.Source.{Source, all_with, found_with}

abbrev pub SameFor : Keyword → Forest Source → Forest Source → Type 0
SameFor k f g = (found_with k f ≡ found_with k g) × (all_with k f ≡ all_with k g)
