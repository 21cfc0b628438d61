-- What an answer unfolds to compute what a pattern takes.
use Rattle.std.specs.Prelude.{⊤}
use Rattle.ucd_category.proofs.Computing.{ucd_category}
use Rattle.yspec_patterns.specs.Escapes.{symbols_from}
use Rattle.yspec_patterns.specs.Classes.{items_from}
use Rattle.yspec_patterns.specs.Quantities.{parts_from}
use Rattle.yspec_patterns.specs.Sizes.{size_from, copies_from}
use Rattle.yspec_patterns.specs.Reading.{built_from}

unfoldable pub patterns_on_literals : ⊤
unfolding ucd_category symbols_from items_from parts_from size_from copies_from built_from
patterns_on_literals = tt
