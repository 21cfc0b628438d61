-- What a type that is no union is made of.
use Rattle.std.specs.Prelude.{[]}
use Rattle.yspec.specs.types.Types as types
use Rattle.ytype_simple.specs.View.{base_of}
use Rattle.ytype_simple.specs.declared.simple.Form.{Form}
use Rattle.ytype_simple.specs.declared.simple.Form.TheVariants as form

abbrev pub simple_of : Form → types.SimpleType
simple_of (form.Plain b) = record { base = base_of b; limits = [] }
simple_of (form.Limited l) = l.value
