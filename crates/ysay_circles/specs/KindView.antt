-- What refers to what, as the specification's.
use Rattle.ysay_circles.specs.Circles as spec
use Rattle.ysay_circles.specs.declared.circles.Kind.{Kind}
use Rattle.ysay_circles.specs.declared.circles.Kind.TheVariants as kinds

abbrev pub kind_view : Kind → spec.Kind
kind_view kinds.Modules = spec.modules
kind_view kinds.Typedefs = spec.typedefs
kind_view kinds.Groupings = spec.groupings
kind_view kinds.Identities = spec.identities
kind_view kinds.Features = spec.features
