-- What restrictions ask of values.
use Rattle.std.specs.Prelude.{List, Option, Some, None}
use Rattle.yspec.specs.types.Ranges as ranges
use Rattle.ytype_simple.specs.declared.simple.Test.{Test}
use Rattle.ytype_simple.specs.declared.simple.Test.TheVariants as test

abbrev pub test_of : Test → ranges.Test
test_of (test.Within range) = ranges.within range
test_of (test.Matching expression inverted) = ranges.matching expression.value inverted

-- the numbers of which a test asks that a value be one
abbrev pub numbers_in : ranges.Test → Option (List ranges.Part)
numbers_in (ranges.within parts) = Some parts
numbers_in (ranges.matching expression inverted) = None
