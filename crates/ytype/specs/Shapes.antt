-- What a type is made of.
use Rattle.yspec.specs.types.Types as types
use Rattle.ytype.specs.declared.ytype.Shape.{Shape}
use Rattle.ytype.specs.declared.ytype.Shape.TheVariants as shape

abbrev pub shape_of : Shape → types.Shape
shape_of (shape.Single s) = types.single s
shape_of (shape.Union members) = types.union members
