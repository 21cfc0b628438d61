-- What is told of augments that find no target.
use Rattle.std.specs.Prelude.{List}
use Rattle.std.specs.List.{flat_map}
use Rattle.yspec.specs.schema.Breaks.{Break, broken}
use Rattle.yspec.specs.linking.Augments.{Augment}

abbrev pub breaks_of : List Augment → List Break
breaks_of augments = flat_map (λ a. broken 14 a.source.home a.source.statement.line) augments
